use Rattle.smx_live.proofs.Common.{◌≡◌, ◌∙◌, ℕ, List, subst, ReadsAny, programs_grammar, table_text}
use Rattle.std.proofs.Common.{Err}
use Rattle.smx_live.proofs.live.begin.Goals as goal

pub returns-in-Err-Text : goal.returns-in-Err-Text
returns-in-Err-Text c =
    let text : c.as_slice.result.now ≡ table_text c.args.table.items =
    c.as_slice.ensures.value ∙ c.in_ok-text.ensures.text in
    let was = rw c.in-Err-Text.field-0-is at c.in-Err-Text.ensures in
    rw c.in-Err-Text.fault-is
    (subst (λ (t : List ℕ). ReadsAny programs_grammar t (Err c.in-Err-Text.fault)) text was.0, was.1)
