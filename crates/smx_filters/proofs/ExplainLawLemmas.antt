-- The explanation beside the verdict of a check, and what is kept of an input in memory.
use Rattle.smx_filters.proofs.Common.{◌≡◌, ℕ, Bool, true, false, List, Option, Some, None, Err, Vec, refl, sym, subst}
use Rattle.smx_filters.proofs.Common.{◌∙◌, inl, inr, Global, Transcript, IsVerdict, Verdict, Legal, checking, Filter}
use Rattle.smx_filters.proofs.Common.{GivesFor, MainFault, Refused, Text}
use Rattle.std.proofs.Common.{◌++◌, [], append-nil}
use Rattle.smx_explain.specs.Explanations.{IsExplanation}
use Rattle.smx_run.specs.declared.run_fault.RunFault.TheVariants as run
use Rattle.smx_run.specs.Refusals.{IsKept, is_in_text}
use Rattle.smx_filters.specs.ExplainText.{KeepsText, judging}
use Rattle.smx_run.specs.declared.main_fault.Refusal.{Refusal}

-- the explanation of a legal transcript is empty
abbrev pub NeedsNone : Type 0
NeedsNone = (t : Transcript) (output : List ℕ) → IsExplanation t output → IsVerdict t.drivers t.entries t.view Legal
    → output ≡ []

-- a check with an explanation, or without one, is a check
pub is_check : NeedsNone → (explain : Bool) (input output : List ℕ) (verdict : Verdict)
    → GivesFor (judging explain) input verdict output
    → (line told : List ℕ) × GivesFor checking input verdict line × (output ≡ line ++ told)
    × (verdict ≡ Legal → told ≡ [])
is_check none false input output verdict (version, t, spells, judged) =
    (output, [], (version, t, spells, judged), sym (append-nil output), λ legal. refl)
is_check none true input output verdict (version, t, spells, h) = (
  _,
  h.explanation,
  (version, t, spells, h.judged),
  h.written,
  λ legal. none t h.explanation h.explained
      (subst (λ (v : Verdict). IsVerdict t.drivers t.entries t.view v) legal h.judged.judged),
)

-- what is kept is there
is_there : (kept : Option (Vec ℕ Global)) (read input : List ℕ) → IsKept kept read → input ≡ read
    → (text : Vec ℕ Global) × (kept ≡ Some text) × (text.items ≡ input)
is_there None read input kept same = absurd kept
is_there (Some text) read input kept same = (text, refl, kept ∙ sym same)

-- if the fault is in the text of an input in memory, all of the text is there to be shown
pub keeps_all : {V K T : Type 0} (f : Filter V K T) (input : List ℕ) (left before after : Option (List ℕ))
    (ended flushed : Bool) (reads writes : ℕ) (refusal : Refusal)
    → KeepsText f (Some input) left ended reads before after flushed writes (Err refusal)
    → is_in_text refusal.fault ≡ true
    → (text : Vec ℕ Global) × (refusal.text ≡ Some text) × (text.items ≡ input)
keeps_all f input left before after ended flushed reads writes refusal h shown =
    is_there refusal.text h.filtered.read input (h.kept shown) (was_read refusal.fault refl shown) where
      was_read : (fault : MainFault) → refusal.fault ≡ fault → is_in_text fault ≡ true → input ≡ h.filtered.read
      was_read (Text fault) is so = (h.filtered.text fault is).0.1
      was_read (Refused (run.ConfigFault fault)) is so = elim (h.filtered.refused (run.ConfigFault fault) is) [
        | inl read ↦ read.0.1
        | inr (none, unread) ↦ absurd (cc none)
      ]
      was_read fault is so = absurd cc
