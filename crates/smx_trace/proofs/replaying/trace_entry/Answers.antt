use Rattle.std.proofs.Common.{◌∷◌, [], ◌∙◌, append-nil, append_assoc, sym}
use Rattle.smx_words.specs.Words.{LINE_FEED}
use Rattle.smx_trace.proofs.TraceLemmas.{entry_traced}
use Rattle.smx_trace.proofs.replaying.trace_entry.Goals as goal
use Rattle.smx_trace.proofs.replaying.trace_entry.Goals.{then-each+in_ok-write_queues, else-each}

pub returns-clause-traced : goal.returns-clause-traced
returns-clause-traced c =
    entry_traced c.args.each c.args.entry.now c.in_ok-reply.reply c.args.config.now c.step.new.self
    c.args.before.now c.in_ok-after.after c.args.text.now.items c.write_entry.new.out.items
    c.write_changes.new.out.items c.if-each.text.items c.in_ok-reply.ensures.drivers c.in_ok-reply.ensures.ok
    c.requires.is c.in_ok-after.ensures.view
    (c.in_ok-write_entry.ensures.written ∙ append_assoc c.args.text.now.items _ (LINE_FEED ∷ []))
    c.in_ok-write_changes.ensures
    (elim c.if-each.branch [
      | then-each+in_ok-write_queues w ↦ rw (w.text-is, w.if-each.true) w.in_ok-write_queues.ensures
      | else-each w ↦ rw (w.text-is, w.if-each.false) (sym (append-nil c.write_changes.new.out.items))
    ])
