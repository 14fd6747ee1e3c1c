use Rattle.smx_config.specs.Marking.{IsMarkedWhere}
use Rattle.smx_config.proofs.RunMarkLemmas.{asks_below}
use Rattle.smx_config.proofs.marks.mark_side.Given as goal

abbrev pub invariant-loop-minor : goal.invariant-loop-minor
invariant-loop-minor l = IsMarkedWhere l.tables.drivers l.tables.configuration.flow
    (asks_below l.tables.configuration l.driver l.side l.addr l.minor) l.initial.run l.run
