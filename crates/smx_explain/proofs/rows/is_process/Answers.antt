use Rattle.smx_explain.proofs.RowLemmas.{no_process}
use Rattle.smx_explain.proofs.rows.is_process.Goals as goal

pub returns-in-Some-2 : goal.returns-in-Some-2
returns-in-Some-2 c = no_process c.args.word.now c.in-Some.number c.in-Some.ensures.0 c.in-Some.ensures.1
    c.if-number-lt-MAX_PROCESSES.false
