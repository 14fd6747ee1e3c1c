use Rattle.smx_explain.proofs.LineLemmas.{none_further, one_further}
use Rattle.smx_explain.proofs.lines.line_at.Goals as goal

pub returns-in_default : goal.returns-in_default
returns-in_default c = λ before rest all count e.
    absurd (none_further c.args.text.now c.args.number c.lines.at c.lines.rest.now c.lines.invariant c.lines-test.true
    c.in_default.ensures.next before rest all count e)

pub lines-preserved : goal.lines-preserved
lines-preserved c =
    one_further c.args.text.now c.args.number c.lines.at c.lines.rest.now _ c.in-Some.after.now c.lines.invariant
    c.lines-test.true c.in-Some.ensures.next.0 c.in-Some.ensures.next.1
