use Rattle.smx_tables.proofs.Common.{List, not, filter, ap, refl, ◌∙◌, Descriptor, outcome, after_sweep}
use Rattle.smx_tables.proofs.Common.{configuration_of}
use Rattle.smx_tables.proofs.HungLemmas.{sweep_of_left}
use Rattle.smx_tables.proofs.TouchLemmas.{touched_beside, touched_by}
use Rattle.std.proofs.Common.{◌==◌}
use Rattle.smx_types.specs.declared.command.Command.TheVariants as command
use Rattle.smx_tables.proofs.ClosingLemmas.{all_closed_touch}
use Rattle.smx_tables.proofs.DoneLemmas.{swept_is}
use Rattle.smx_tables.proofs.TablesLemmas.{accepted, sound_inside, tells_inside}
use Rattle.smx_tables.proofs.tables.Tables.close_all.Goals as goal

pub sweep_and_reply-requires-clause-touched : goal.sweep_and_reply-requires-clause-touched
sweep_and_reply-requires-clause-touched c =
    let old = configuration_of c.self.inside.lists in
    let t = c.self.inside.lists.streams in
    let u = c.close_process.new.self in
    let ss = c.touch_each.new.touched.items in
    let sound = sound_inside c.self.inside c.args.self.now c.self.view_is c.requires in
    touched_beside u ss old u.fds u.hungs
    (touched_by c.self.inside.drivers.items old t u ss
    (tells_inside c.self.inside c.args.self.now c.self.view_is c.self.invariant c.requires) sound.swept
    (all_closed_touch t u c.args.process ss c.touch_each.ensures.named c.close_process.ensures.went))

pub returns : goal.returns
returns c =
    let old = configuration_of c.self.inside.lists in
    let u = c.close_process.new.self in
    let sound = sound_inside c.self.inside c.args.self.now c.self.view_is c.requires in
    let swept = record old { fds = u.fds; hungs = u.hungs } in
    let left = sweep_of_left c.self.inside.drivers.items swept u old.hungs
    (λ s. c.close_process.ensures.rest.holds s ∙ c.self.invariant.kept.held s)
    refl c.close_process.ensures.rest.hungs in
    accepted c.self.inside c.args.self.now _
    (λ m. outcome m.drivers m.configuration c.args.process command.CloseAll) _ c.self.view_is
    (swept_is c.self.inside.drivers.items c.deref.result.now old
    (record old { fds = filter (λ d. not (d.process == c.args.process)) old.fds }) swept _
    c.sweep_and_reply.result
    c.deref.ensures.value c.sweep_and_reply.ensures.value (left
    ∙ ap (λ (fs : List Descriptor). after_sweep c.self.inside.drivers.items (record old { fds = fs }))
    c.close_process.ensures.rest.fds)
    (c.sweep_and_reply.ensures.reply old.flow sound.serials.apart c.in_ok-reserve_for_sweep.ensures.none))
