use Rattle.std.proofs.Common.{◌∷◌, [], ◌∙◌, append_assoc}
use Rattle.smx_words.specs.Words.{LINE_FEED}
use Rattle.smx_trace.proofs.TraceLemmas.{configuration_written}
use Rattle.smx_trace.proofs.replaying.write_configuration.Goals as goal

pub returns : goal.returns
returns c =
    configuration_written c.args.config.now.drivers c.args.config.now.configuration c.args.view.now
    c.args.out.now.items c.put.new.out.items c.write_next.new.out.items c.write_lines.new.out.items
    c.write_lines-2.new.out.items c.write_lines-3.new.out.items c.write_lines-4.new.out.items
    c.write_queues.new.out.items c.write_lines-5.new.out.items c.write_lines-6.new.out.items c.requires.is
    c.in_ok-put.ensures (c.in_ok-write_next.ensures.written ∙ append_assoc c.put.new.out.items _ (LINE_FEED ∷ []))
    (rw c.as_slice.ensures at c.in_ok-write_lines.ensures.written)
    (rw c.as_slice-2.ensures at c.in_ok-write_lines-2.ensures.written)
    (rw c.as_slice-3.ensures at c.in_ok-write_lines-3.ensures.written)
    (rw c.as_slice-4.ensures at c.in_ok-write_lines-4.ensures.written) c.in_ok-write_queues.ensures
    (rw c.as_slice-6.ensures at c.in_ok-write_lines-5.ensures.written)
    (rw c.as_slice-7.ensures at c.in_ok-write_lines-6.ensures.written)
