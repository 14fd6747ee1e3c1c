use Rattle.smx_live.proofs.Common.{◌≡◌, [], ap, drop, codes}
use Rattle.smx_live.proofs.BrokenLiveLemmas.{answers_out, not_out, opening_out}
use Rattle.smx_live.proofs.laws_of_live.what_is_out_when_memory_runs_out.Goals as goal

pub returns-clause-opening : goal.returns-clause-opening
returns-clause-opening c = opening_out c.a_worked_session.ensures.starts

pub returns-clause-answers : goal.returns-clause-answers
returns-clause-answers c = answers_out c.a_worked_session.ensures.starts c.worked_explanations.ensures.no_request

-- after the 38 bytes of the opening an answer is left
pub returns-clause-not_an_answer : goal.returns-clause-not_an_answer
returns-clause-not_an_answer c =
    not_out c.one_text_has_one_reading.ensures c.a_worked_session.ensures.starts _ (λ e. absurd (cc e))
    (λ e. let left : codes "3 clone eth = fd 0 0\n" ≡ [] = ap (drop 38) e in absurd (cc left))

pub returns-clause-not_a_refusal : goal.returns-clause-not_a_refusal
returns-clause-not_a_refusal c =
    not_out c.one_text_has_one_reading.ensures c.a_worked_session.ensures.starts _ (λ e. absurd (cc e))
    (λ e. let left : codes "? no memory\n" ≡ [] = ap (drop 38) e in absurd (cc left))

pub returns-clause-not_a_part : goal.returns-clause-not_a_part
returns-clause-not_a_part c =
    not_out c.one_text_has_one_reading.ensures c.a_worked_session.ensures.starts _ (λ e. absurd (cc e))
    (λ e. absurd (cc e))
