use Rattle.smx_explain.proofs.Common.{◌∙◌, ap, inr, refl, subst, IsPartAt, first_of}
use Rattle.smx_explain.specs.Hints.{IsHintOn}
use Rattle.smx_explain.proofs.fault.explain_line.Goals as goal

pub returns : goal.returns
returns c =
    let at = c.in-Some.at in
    let h = c.in-Some.ensures in
    let part : IsPartAt c.args.line.now at.column (first_of h.behind) =
    (h.front, h.behind, h.parts, h.column, refl) in inr (
      at,
      first_of h.behind,
      c.hint_of-hint.result,
      h,
      part,
      subst (λ word. IsHintOn c.args.version at.wanted word c.hint_of-hint.result) (c.word_at.ensures _ part)
          c.hint_of-hint.ensures,
      ap (λ v. v.items) c.into_bytes.ensures.value ∙ c.in_ok-text.ensures,
    )
