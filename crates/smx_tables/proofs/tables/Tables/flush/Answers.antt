use Rattle.smx_tables.proofs.Common.{◌≡◌, ◌&&◌, ap, refl, sym, ◌∙◌, Place, done_outcome, same_stream, after_sweep}
use Rattle.smx_tables.proofs.Common.{configuration_of}
use Rattle.std.proofs.lemmas.Bool.{or_left}
use Rattle.smx_model.specs.Commands.{is_side}
use Rattle.smx_model.specs.Removal.{without_queues_at}
use Rattle.smx_tables.proofs.TouchLemmas.{touched_emptied, touched_by}
use Rattle.smx_tables.proofs.DoneLemmas.{swept_is}
use Rattle.smx_tables.proofs.TablesLemmas.{accepted, sound_inside, tells_inside}
use Rattle.smx_tables.proofs.tables.Tables.flush.Goals as goal

pub sweep_and_reply-requires-clause-touched : goal.sweep_and_reply-requires-clause-touched
sweep_and_reply-requires-clause-touched c =
    let old = configuration_of c.self.inside.lists in
    let t = c.self.inside.lists.streams in
    let touched = c.reserve_for_sweep.new.room.touched.items in
    let goes = λ (p : Place). same_stream p.stream c.in_ok-stream.stream && is_side c.args.sides p.side in
    let sound = sound_inside c.self.inside c.args.self.now c.self.view_is c.requires in
    rw (c.drop_sides.ensures.flow, c.drop_sides.ensures.fulls)
    (touched_emptied t touched old goes
    (touched_by c.self.inside.drivers.items old t t touched
    (tells_inside c.self.inside c.args.self.now c.self.view_is c.self.invariant c.requires) sound.swept
    (λ s there. or_left _ _ there)))

pub returns : goal.returns
returns c =
    let old = configuration_of c.self.inside.lists in
    let goes = λ (p : Place). same_stream p.stream c.in_ok-stream.stream && is_side c.args.sides p.side in
    let sound = sound_inside c.self.inside c.args.self.now c.self.view_is c.requires in
    let emptied : record old { flow = c.drop_sides.new.queues.flow; fulls = c.drop_sides.new.queues.fulls }
    ≡ without_queues_at old goes = rw (c.drop_sides.ensures.flow, c.drop_sides.ensures.fulls) refl in
    rw (sym c.live_stream.ensures ∙ c.in_ok-stream.was)
    (accepted c.self.inside c.args.self.now _
    (λ m. done_outcome m.drivers m.configuration (without_queues_at m.configuration goes)) _ c.self.view_is
    (swept_is c.self.inside.drivers.items c.deref.result.now old (without_queues_at old goes)
    (record old { flow = c.drop_sides.new.queues.flow; fulls = c.drop_sides.new.queues.fulls }) _
    c.sweep_and_reply.result
    c.deref.ensures.value c.sweep_and_reply.ensures.value
    (ap (after_sweep c.self.inside.drivers.items) emptied)
    (c.sweep_and_reply.ensures.reply old.flow sound.serials.apart
    (c.drop_sides.ensures.dropped old.flow c.in_ok-reserve_for_sweep.ensures.none))))
