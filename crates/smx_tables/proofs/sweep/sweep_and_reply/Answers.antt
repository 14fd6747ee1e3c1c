use Rattle.smx_tables.proofs.Common.{ap, sym, subst, ◌∙◌, Configuration, without_dead_streams, without_links}
use Rattle.smx_tables.proofs.Common.{TellsExisting, is_orphaned, configuration_of, IsTouched}
use Rattle.std.specs.Prelude.{length}
use Rattle.smx_tables.proofs.HungLemmas.{dead_of_left, left_there}
use Rattle.smx_tables.proofs.TouchLemmas.{touched_beside, touched_on, touched_without}
use Rattle.smx_tables.proofs.sweep.sweep_and_reply.Goals as goal

pub drop_dead-requires-clause-hungs : goal.drop_dead-requires-clause-hungs
drop_dead-requires-clause-hungs c = left_there c.args.lists.now.streams c.drop_orphans.new.lists.streams
    c.drop_orphans.ensures.hungs

pub drop_dead-requires-clause-seen : goal.drop_dead-requires-clause-seen
drop_dead-requires-clause-seen c =
    let old = configuration_of c.args.lists.now in
    let t = c.args.lists.now.streams in
    let u = c.drop_orphans.new.lists.streams in
    let goes = is_orphaned t.fds c.args.lists.now.links.links (length c.args.drivers.now) in
    let seen = c.drop_orphans.new.room.seen.items in
    rw c.deref.ensures.value (subst (λ (x : Configuration). IsTouched u seen x) (sym c.drop_orphans.ensures.value)
    (touched_beside u seen (without_links old goes) old.fds u.hungs
    (touched_on t u c.args.room.now.touched.items seen (without_links old goes)
    (touched_without t c.args.room.now.touched.items old goes c.requires.touched) c.drop_orphans.ensures.seen)))

pub returns-clause-value : goal.returns-clause-value
returns-clause-value c =
    let old = configuration_of c.args.lists.now in
    let u = c.drop_orphans.new.lists.streams in
    let goes = is_orphaned c.args.lists.now.streams.fds c.args.lists.now.links.links (length c.args.drivers.now) in
    c.drop_dead.ensures.value c.args.drivers.now c.drop_orphans.ensures.existing
    ∙ ap (without_dead_streams c.args.drivers.now) c.drop_orphans.ensures.value
    ∙ dead_of_left c.args.drivers.now (without_links old goes) u u.hungs
    (subst (λ (x : Configuration). TellsExisting c.args.drivers.now x u) c.drop_orphans.ensures.value
    c.drop_orphans.ensures.existing) c.drop_orphans.ensures.hungs

pub returns-clause-reply : goal.returns-clause-reply
returns-clause-reply c = λ old apart h.
    c.name_dropped.ensures _ old apart (c.drop_dead.ensures.dropped old (c.drop_orphans.ensures.dropped old h))
