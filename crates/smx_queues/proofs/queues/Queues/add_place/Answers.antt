use Rattle.std.proofs.Common.{ap, arith, position, refl, ◌∙◌}
use Rattle.std.proofs.lemmas.List.{length-map}
use Rattle.smx_queues.specs.Chains.{slot_of}
use Rattle.smx_queues.specs.QueueTable.{empty_queue}
use Rattle.smx_queues.proofs.QueueTableLemmas.{goes, placed_at, placed_last, vacant_found, vacant_not_found}
use Rattle.smx_queues.proofs.StoreLemmas.{again, has_none, pushed, seen_now}
use Rattle.smx_queues.proofs.queues.Queues.add_place.Goals as goal

pub invariant_of-self : goal.invariant_of-self
invariant_of-self c =
    let f = vacant_found c.self.inside.nodes _ _ (c.in-Some.ensures ∙ ap (position goes) c.deref.ensures.value) in
    rw c.new-chain.ensures (seen_now (again _ _ c.self.invariant _ _ f.0 f.1
    (has_none _ refl refl c.requires.high c.requires.low))).sound

pub returns-in-Some-clause-number : goal.returns-in-Some-clause-number
returns-in-Some-clause-number c = rw (← c.self.view_is)
    (vacant_found c.self.inside.nodes _ _ (c.in-Some.ensures ∙ ap (position goes) c.deref.ensures.value)).2

pub returns-in-Some-clause-added : goal.returns-in-Some-clause-added
returns-in-Some-clause-added c =
    let f = vacant_found c.self.inside.nodes _ _ (c.in-Some.ensures ∙ ap (position goes) c.deref.ensures.value) in
    rw (← c.self.view_is, c.new-chain.ensures)
    ((again _ _ c.self.invariant _ _ f.0 f.1 (has_none _ refl refl c.requires.high c.requires.low)).is
    ∙ placed_at _ _ (empty_queue c.args.high c.args.low) f.2
    (omega (arith, f.0, length-map c.self.inside.chains.items (slot_of c.self.inside.nodes))))

pub invariant_of-self-2 : goal.invariant_of-self-2
invariant_of-self-2 c = rw (c.in_ok-push.ensures.items, c.new-chain.ensures)
    (seen_now (pushed _ _ c.self.invariant _ (has_none _ refl refl c.requires.high c.requires.low))).sound

pub returns-clause-number : goal.returns-clause-number
returns-clause-number c =
    let e = vacant_not_found c.self.inside.nodes _ (c.in_default.ensures ∙ ap (position goes) c.deref.ensures.value) in
    rw (← c.self.view_is) (omega (arith, c.len-p.ensures, e))

pub returns-clause-added : goal.returns-clause-added
returns-clause-added c = rw (← c.self.view_is, c.in_ok-push.ensures.items, c.new-chain.ensures)
    ((pushed _ _ c.self.invariant _ (has_none _ refl refl c.requires.high c.requires.low)).is
    ∙ placed_last _ (empty_queue c.args.high c.args.low) (length-map c.self.inside.chains.items _
    ∙ vacant_not_found c.self.inside.nodes _ (c.in_default.ensures ∙ ap (position goes) c.deref.ensures.value)))
