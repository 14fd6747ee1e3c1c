use Rattle.smx_tables.proofs.Common.{List, ap, ◌∙◌, list_any, StreamId, same_stream, configuration_of}
use Rattle.smx_tables.proofs.WatchLemmas.{listed_last}
use Rattle.smx_tables.proofs.ClosingLemmas.{close_touches, closes_last}
use Rattle.smx_tables.proofs.TablesLemmas.{sound_inside, tells_inside}
use Rattle.smx_tables.proofs.tables.Tables.close_last.Goals as goal

pub sweep_and_reply-requires-clause-touched : goal.sweep_and_reply-requires-clause-touched
sweep_and_reply-requires-clause-touched c =
    let last = ap (λ (xs : List StreamId). list_any (same_stream c.args.stream) xs) c.push_reserved.ensures.items
    ∙ listed_last c.reserve_for_sweep.new.room.touched.items c.args.stream in
    let sound = sound_inside c.self.inside c.args.self.now c.self.view_is c.requires.sound in
    close_touches c.self.inside.drivers.items (configuration_of c.self.inside.lists) c.self.inside.lists.streams
    c.close_fd-closed.new.self c.args.process c.args.fd c.args.stream c.push_reserved.new.self.items
    (tells_inside c.self.inside c.args.self.now c.self.view_is c.self.invariant c.requires.sound) sound.swept
    (rw (← c.self.view_is) at c.requires.there) last
    c.close_fd-closed.ensures.went

pub returns : goal.returns
returns c =
    let old = configuration_of c.self.inside.lists in
    let sound = sound_inside c.self.inside c.args.self.now c.self.view_is c.requires.sound in
    closes_last c.self.inside c.args.self.now c.args.process c.args.fd c.close_fd-closed.new.self
    c.deref.result.now _ c.sweep_and_reply.result c.self.view_is c.self.invariant c.close_fd-closed.ensures.rest
    c.deref.ensures.value c.sweep_and_reply.ensures.value
    (c.sweep_and_reply.ensures.reply old.flow sound.serials.apart c.in_ok-reserve_for_sweep.ensures.none)
