use Rattle.smx_tables.proofs.Common.{◌≡◌, List, false, ap, subst, sym, ◌∙◌, DriverSpec, Machine}
use Rattle.std.proofs.Common.{IsSome}
use Rattle.smx_model.specs.Queues.{first_message, is_full}
use Rattle.smx_queues.specs.PlaceLists.{places_of}
use Rattle.smx_queues.proofs.FlowCallLemmas.{numbered}
use Rattle.smx_tables.proofs.MoveLemmas.{carried, drivers_moved}
use Rattle.smx_tables.proofs.PlaceNumberLemmas.{is_seen, is_there, number_there}
use Rattle.smx_tables.proofs.tables.Tables.carry.Goals as goal

pub move_front_at-requires-clause-some : goal.move_front_at-requires-clause-some
move_front_at-requires-clause-some c = λ p at.
    subst (λ (m : Machine). IsSome (first_message m.configuration.flow p)) (sym c.self.view_is)
    (c.requires.some p (is_seen c.self.inside _ c.args.from p c.self.invariant c.self.view_is at))

pub move_front_at-requires-clause-open : goal.move_front_at-requires-clause-open
move_front_at-requires-clause-open c = λ q at.
    subst (λ (m : Machine). is_full m.configuration q ≡ false) (sym c.self.view_is)
    (c.requires.open q (is_seen c.self.inside _ c.args.to q c.self.invariant c.self.view_is at))

pub invariant_of-self : goal.invariant_of-self
invariant_of-self c =
    let lists = c.self.inside.lists in
    let here = numbered (places_of lists.queues.drivers) c.args.from
    (number_there c.self.inside _ c.args.from c.self.invariant c.self.view_is c.requires.from) in
    let there = numbered (places_of lists.queues.drivers) c.args.to
    (number_there c.self.inside _ c.args.to c.self.invariant c.self.view_is c.requires.to) in
    record {
      can = c.self.invariant.can;
      sizes = ap (λ (ds : List DriverSpec). (lists.links.drivers, lists.streams.minors, ds))
          (drivers_moved lists.queues c.move_front_at.new.self here.0 there.0
          (subst (λ (m : Machine). IsSome (first_message m.configuration.flow here.0)) (sym c.self.view_is)
          (c.requires.some here.0 (is_seen c.self.inside _ c.args.from here.0 c.self.invariant c.self.view_is here.1)))
          (λ m first. c.move_front_at.ensures here.0 there.0 m here.1 there.1 first))
          ∙ c.self.invariant.sizes;
      kept = record { held = c.self.invariant.kept.held };
    }

pub returns : goal.returns
returns c = λ p q at there. carried c.self.inside _ c.move_front_at.new.self p q c.self.invariant c.self.view_is
    (c.requires.some p at) (λ m first. c.move_front_at.ensures p q m
    (is_there c.self.inside _ c.args.from p c.self.invariant c.self.view_is at)
    (is_there c.self.inside _ c.args.to q c.self.invariant c.self.view_is there) first)
