use Rattle.smx_config.proofs.Common.{AreMarks, AreHops}
use Rattle.smx_queues.specs.Bits.{bit_count}
use Rattle.smx_config.proofs.settling.next_move.Given as goal

abbrev pub decreases-loop-from : goal.decreases-loop-from
decreases-loop-from l = bit_count l.marks.run

abbrev pub invariant-loop-from : goal.invariant-loop-from
invariant-loop-from l = record {
  marks : AreMarks l.tables.drivers l.tables.configuration l.marks;
  hops : AreHops l.tables.drivers l.tables.configuration l.hops;
}
