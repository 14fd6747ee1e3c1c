use Rattle.std.proofs.Common.{◌≡◌, ◌-◌, ◌∙◌, ◌∷◌, ◌++◌, [], ap, arith, drop, sym}
use Rattle.std.proofs.lemmas.List.{take_rest}
use Rattle.smx_words.specs.Words.{SPACE}
use Rattle.smx_explain.proofs.SessionLineLemmas.{no_part, part_here}
use Rattle.smx_explain.proofs.columns.word_at.Goals as goal

pub returns-in-Some : goal.returns-in-Some
returns-in-Some c = λ word is.
    let h = c.in-Some.ensures.lookup.0 in
    let at = c.saturating_sub.ensures in
    let rest : c.in-Some.rest.now ≡ drop (c.args.column - 1) c.args.line.now =
    h.2 ∙ take_rest c.args.line.now c.saturating_sub.result ∙ ap (λ n. drop n c.args.line.now) at in
    part_here c.args.line.now c.args.column word is (omega (arith, h.0, at)) c.first_word.result.0.now _
    c.first_word.ensures.free (ap (λ xs. xs ++ SPACE ∷ []) (sym rest) ∙ c.first_word.ensures.cut)

pub returns-in-None : goal.returns-in-None
returns-in-None c = λ word is. no_part c.args.line.now c.args.column word is
    (grind (arith, c.in-None.ensures.lookup.0, c.saturating_sub.ensures))
