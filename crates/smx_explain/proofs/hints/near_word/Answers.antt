use Rattle.std.proofs.Common.{sym, ◌∙◌}
use Rattle.smx_explain.proofs.NearLemmas.{meant_first}
use Rattle.smx_explain.proofs.hints.near_word.Goals as goal

pub returns-in-Some : goal.returns-in-Some
returns-in-Some c = meant_first c.args.version c.args.choice c.args.word.now c.in-Some.verb.now
    (sym c.is_empty.ensures ∙ c.if-is_empty.false) (rw c.rows_in.ensures at c.in-Some.ensures)
