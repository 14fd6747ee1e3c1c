use Rattle.smx_config.proofs.Common.{sym, subst, arith, BitTable, AreMarks, none_is_least}
use Rattle.smx_model.proofs.LeastMarkedLemmas.{settling_stays}
use Rattle.smx_config.proofs.NextMoveLemmas.{if_none, none_marked, with_run}
use Rattle.smx_config.proofs.settling.settle.Goals as goal

pub returns-else-is_some-clause-value : goal.returns-else-is_some-clause-value
returns-else-is_some-clause-value c = grind (arith, none_marked, if_none, settling_stays, none_is_least)

pub settle_marked-requires-clause-marks : goal.settle_marked-requires-clause-marks
settle_marked-requires-clause-marks c = subst
    (λ (b : BitTable). AreMarks c.args.tables.now.drivers c.args.tables.now.configuration (with_run c.args.marks.now b))
    (sym c.first.ensures.same) c.requires.marks
