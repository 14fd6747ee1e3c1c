use Rattle.smx_tables.proofs.Common.{List, not, sym, ap, subst, ◌∙◌, arith, done_outcome, Configuration, IsKnown}
use Rattle.smx_tables.proofs.Common.{after_sweep, configuration_of}
use Rattle.smx_tables.proofs.HungLemmas.{sweep_of_left}
use Rattle.std.specs.List.{All}
use Rattle.std.proofs.lemmas.List.Elements.{All-filter}
use Rattle.smx_types.specs.declared.link.Link.{Link}
use Rattle.smx_model.specs.Removal.{without_links}
use Rattle.smx_tables.specs.ExistingStreams.{AreHeld}
use Rattle.smx_tables.specs.TouchedStreams.{IsTouched}
use Rattle.smx_tables.proofs.TouchLemmas.{few_ids, touched_without, touched_beside, touched_by}
use Rattle.smx_tables.specs.UnlinkTargets.{is_target}
use Rattle.smx_tables.proofs.DoneLemmas.{swept_is}
use Rattle.smx_tables.proofs.TablesLemmas.{accepted, sound_inside, tells_inside}
use Rattle.smx_tables.proofs.tables.Tables.unlink_as.Goals as goal

pub targets-requires-clause-rise : goal.targets-requires-clause-rise
targets-requires-clause-rise c = grind (arith, sound_inside c.self.inside c.args.self.now c.self.view_is c.requires)

pub reserve_for_sweep-requires : goal.reserve_for_sweep-requires
reserve_for_sweep-requires c = grind (arith, few_ids)

pub sweep_and_reply-requires-clause-known : goal.sweep_and_reply-requires-clause-known
sweep_and_reply-requires-clause-known c =
    let ds = c.self.inside.drivers.items in
    let goes = is_target c.args.which c.args.kind c.in_ok-stream.stream in
    let left = ap (λ (x : Configuration). x.links)
    (c.remove_links.ensures.value goes (c.deref.ensures.value ∙ c.in_ok-gone.ensures)) in
    let sound = sound_inside c.self.inside c.args.self.now c.self.view_is c.requires in
    rw c.deref-2.ensures.value (subst (λ (ls : List Link). All (λ l. IsKnown ds l.ctl) ls) (sym left)
    (All-filter (λ l. not (goes l)) (λ l. IsKnown ds l.ctl) c.self.inside.lists.links.links sound.known.controlling))

pub sweep_and_reply-requires-clause-touched : goal.sweep_and_reply-requires-clause-touched
sweep_and_reply-requires-clause-touched c =
    let goes = is_target c.args.which c.args.kind c.in_ok-stream.stream in
    let old = configuration_of c.self.inside.lists in
    let streams = c.remove_links.new.lists.streams in
    let touched = c.remove_links.new.touched.items in
    let sound = sound_inside c.self.inside c.args.self.now c.self.view_is c.requires in
    subst (λ (x : Configuration). IsTouched streams touched x)
    (sym (c.remove_links.ensures.value goes (c.deref.ensures.value ∙ c.in_ok-gone.ensures)))
    (touched_beside streams touched (without_links old goes) old.fds streams.hungs
    (touched_without streams touched old goes
    (touched_by c.self.inside.drivers.items old c.self.inside.lists.streams streams touched
    (tells_inside c.self.inside c.args.self.now c.self.view_is c.self.invariant c.requires) sound.swept
    c.remove_links.ensures.touched)))

pub returns : goal.returns
returns c =
    let ds = c.self.inside.drivers.items in
    let goes = is_target c.args.which c.args.kind c.in_ok-stream.stream in
    let old = configuration_of c.self.inside.lists in
    let u = c.remove_links.new.lists.streams in
    let sound = sound_inside c.self.inside c.args.self.now c.self.view_is c.requires in
    let removed = c.remove_links.ensures.value goes (c.deref.ensures.value ∙ c.in_ok-gone.ensures) in
    let links = ap (λ (x : Configuration). x.links) removed in
    let left = sweep_of_left ds (record (without_links old goes) { hungs = u.hungs }) u old.hungs
    (subst (λ (ls : List Link). AreHeld ls u) links c.remove_links.ensures.kept.held)
    (ap (λ (x : Configuration). x.fds) removed) c.remove_links.ensures.hungs in
    rw (sym c.mux_stream.ensures ∙ c.in_ok-stream.was, sym c.check_targets.ensures ∙ c.in_ok-check_targets.was)
    (accepted c.self.inside c.args.self.now _
    (λ m. done_outcome m.drivers m.configuration (without_links m.configuration goes)) _ c.self.view_is
    (swept_is ds c.deref-2.result.now old (without_links old goes)
    (record (without_links old goes) { hungs = u.hungs }) _ c.sweep_and_reply.result c.deref-2.ensures.value
    (c.sweep_and_reply.ensures.value ∙ ap (after_sweep c.deref-2.result.now) removed) left
    (c.sweep_and_reply.ensures.reply old.flow sound.serials.apart
    (c.remove_links.ensures.dropped old.flow c.in_ok-reserve_for_sweep.ensures.none))))
