use Rattle.smx_explain.proofs.Common.{Some, [], refl, subst, sym}
use Rattle.smx_explain.proofs.ColumnLemmas.{HasCome, at_begin, ends_here, one_more, stops_here, whole_here}
use Rattle.smx_explain.proofs.columns.column_of.Goals as goal

pub words-init : goal.words-init
words-init c = subst (λ next. HasCome c.args.kind c.args.version c.args.line.now 1 (Some c.args.line) [] next)
    (sym c.first_choice.ensures) (at_begin c.args.kind c.args.version c.args.line)

pub returns-in_default-go_on : goal.returns-in_default-go_on
returns-in_default-go_on c =
    rw c.wanted-wanted.ensures (stops_here c.words.invariant c.in-Some.is _ _ c.first_word.ensures.free
    c.first_word.ensures.cut c.in_default-go_on.ensures)

pub words-preserved : goal.words-preserved
words-preserved c = one_more c.words.invariant c.in-Some.is _ _ c.first_word.ensures.free c.first_word.ensures.cut _ _
    c.in-Some-go_on.ensures _ refl

pub returns-then-may_end : goal.returns-then-may_end
returns-then-may_end c =
    whole_here c.words.invariant c.in_default.is (rw c.wanted-wanted-2.ensures at c.if-may_end.ensures)

pub returns : goal.returns
returns c =
    rw c.wanted-wanted-2.ensures
    (ends_here c.words.invariant c.in_default.is (rw c.wanted-wanted-2.ensures at c.if-may_end.ensures))
