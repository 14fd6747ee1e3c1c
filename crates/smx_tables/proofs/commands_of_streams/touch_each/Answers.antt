use Rattle.std.proofs.Common.{[], ◌∷◌, ap, length, length-append, sym, ◌∙◌, arith}
use Rattle.smx_tables.proofs.ClosingLemmas.{none_named_more, one_named_more}
use Rattle.smx_tables.proofs.commands_of_streams.touch_each.Goals as goal
use Rattle.smx_tables.proofs.commands_of_streams.touch_each.Goals.{in-Some, in_default}

pub loop-fd-preserved : goal.loop-fd-preserved
loop-fd-preserved c = elim c.match-stream_of.branch [
  | in-Some w ↦
      let pushed = w.push_reserved.ensures.items in
      rw w.touched-is (record {
        named = rw pushed
            (one_named_more c.args.streams.now.fds c.args.process c.loop-fd.fd w.in-Some.stream c.loop-fd.touched.items
            (sym w.in-Some.ensures) c.loop-fd.invariant.named);
        few = omega (
          arith,
          ap length pushed,
          length-append c.loop-fd.touched.items (w.in-Some.stream ∷ []),
          c.loop-fd.invariant.few,
        );
        capacity = w.push_reserved.ensures.capacity ∙ c.loop-fd.invariant.capacity;
      })
  | in_default w ↦ rw w.touched-is (record {
    named = none_named_more c.args.streams.now.fds c.args.process c.loop-fd.fd c.loop-fd.touched.items
        (sym w.in_default.ensures) c.loop-fd.invariant.named;
    few = omega (arith, c.loop-fd.invariant.few);
    capacity = c.loop-fd.invariant.capacity;
  })
]
