use Rattle.smx_explain.proofs.Common.{[], ◌∷◌, inl, inr, refl, arith, rules, codes}
use Rattle.smx_explain.proofs.laws.worked_columns.Goals as goal

pub returns-clause-show : goal.returns-clause-show
returns-clause-show c = (codes "show" ∷ [], (search (rules, arith), refl), inl refl)

pub returns-clause-trace_on : goal.returns-clause-trace_on
returns-clause-trace_on c = (codes "trace" ∷ codes "on" ∷ [], (search (rules, arith), refl), inr (inl refl))

pub returns-clause-trace_off : goal.returns-clause-trace_off
returns-clause-trace_off c = (codes "trace" ∷ codes "off" ∷ [], (search (rules, arith), refl), inr (inr (inl refl)))

pub returns-clause-end : goal.returns-clause-end
returns-clause-end c = (codes "end" ∷ [], (search (rules, arith), refl), inr (inr (inr (inl refl))))
