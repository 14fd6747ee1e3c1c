use Rattle.smx_config.specs.Marking.{IsMarkedWhere}
use Rattle.smx_config.proofs.RunMarkLemmas.{asks_before}
use Rattle.smx_config.proofs.marks.mark_reads.Given as goal

abbrev pub invariant-loop-lower : goal.invariant-loop-lower
invariant-loop-lower l = IsMarkedWhere l.tables.drivers l.tables.configuration.flow
    (asks_before l.tables.configuration l.driver l.addr l.lower) l.initial.run l.run
