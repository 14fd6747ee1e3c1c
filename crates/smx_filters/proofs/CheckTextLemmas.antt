-- The answer of a check to a transcript that was read.
use Rattle.smx_filters.proofs.Common.{◌≡◌, ℕ, List, Result, Ok, Err, sym, subst, IfErr, IsErrAnd, Global, Transcript}
use Rattle.smx_filters.proofs.Common.{ReadsAny, Spells, transcript_grammar, TextFault, Verdict, checking, Answers}
use Rattle.smx_filters.proofs.Common.{IsFaultOf, MainFault, Text}
use Rattle.smx_filters.proofs.Common.{refl, Version, Legal, ◌∙◌}
use Rattle.std.proofs.Common.{append-nil, length, []}
use Rattle.std.specs.Prelude.{IfOk, String, string_bytes}
use Rattle.smx_text.specs.TranscriptText.{IsAllowed}
use Rattle.smx_explain.proofs.ExplanationLemmas.{legal_unexplained}
use Rattle.smx_config.specs.Verdicts.{IsVerdict}
use Rattle.smx_filters.specs.CheckText.{IsJudged, IsRefusedCheck, judged_of, verdict_line}
use Rattle.smx_filters.specs.ExplainText.{IsExplained}

-- the malformed text is that of the input
pub text_not_judged : (bytes input : List ℕ) → bytes ≡ input → (f : TextFault)
    (answer : Result (Verdict × String Global) MainFault) → IsErrAnd answer (λ e. e ≡ Text f)
    → IsFaultOf checking bytes f → Answers checking input (judged_of answer)
text_not_judged bytes input same f (Ok judged) is fault = absurd is
text_not_judged bytes input same f (Err e) is fault =
    subst (λ (x : MainFault). Answers checking input (Err x)) (sym is)
    (subst (λ (given : List ℕ). IsFaultOf checking given f) same fault)

-- the answer is the verdict on what was read, or why it is not judged
pub judged_answers : (bytes input : List ℕ) → bytes ≡ input → (t : Transcript)
    → ReadsAny transcript_grammar bytes (Ok t) → (answer : Result (Verdict × String Global) MainFault)
    → IfOk answer (λ j. IsJudged t j.0 (string_bytes j.1)) → IfErr answer (IsRefusedCheck t.drivers)
    → Answers checking input (judged_of answer)
judged_answers bytes input same t read (Ok j) judged refused =
    (read.0, t, subst (λ (bs : List ℕ). Spells (transcript_grammar read.0) bs t) same read.1, judged)
judged_answers bytes input same t read (Err e) judged refused =
    let spells = subst (λ (bs : List ℕ). Spells (transcript_grammar read.0) bs t) same read.1 in
    subst (λ (x : MainFault). Answers checking input (Err x)) (sym refused.1) (read.0, t, spells, refused.2)

-- the line of a legal transcript, with no explanation below it
pub legal_explained : (version : Version) (bytes : List ℕ) (t : Transcript) → Spells (transcript_grammar version) bytes t
    → (verdict : Verdict) → verdict ≡ Legal → (line output : List ℕ) → IsJudged t verdict line → output ≡ line
    → IsExplained t verdict output
legal_explained version bytes t spells verdict legal line output h is = record {
  judged = record { valid_drivers = h.valid_drivers; judged = h.judged; written = refl };
  explanation = [];
  explained = legal_unexplained t
      (subst (λ (v : Version). IsAllowed v t) (sym spells.allowed.version_is) spells.allowed) h.valid_drivers
      (subst (λ (v : Verdict). IsVerdict t.drivers t.entries t.view v) legal h.judged);
  written = is ∙ h.written ∙ sym (append-nil (verdict_line (length t.entries) verdict));
}
