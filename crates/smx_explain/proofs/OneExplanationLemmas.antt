-- A transcript has only one explanation.
use Rattle.std.proofs.Common.{◌≡◌, ℕ, List, [], sym, ap, subst, ◌∙◌, inl, inr}
use Rattle.std.specs.Prelude.{◌⊎◌}
use Rattle.smx_types.specs.declared.transcript.Transcript.{Transcript}
use Rattle.smx_trace.specs.Replays.{IsReplayOf}
use Rattle.smx_text.specs.TranscriptText.{transcript_text}
use Rattle.smx_explain.specs.Explanations.{IsExplanation, TellsDifference, difference_text}
use Rattle.smx_explain.proofs.LineLemmas.{no_difference, one_difference}

-- one difference is shown in only one way
same_output : (one other a b : List ℕ) → TellsDifference one other a → TellsDifference one other b → a ≡ b
same_output one other a b (n, told, has, first, is) (m, said, had, first_too, is_too) =
    let same = one_difference one other n m told has said had first first_too in
    is ∙ ap (λ (k : ℕ). difference_text k told has) same.0 ∙ ap (λ (l : List ℕ). difference_text m l has) same.1
    ∙ ap (λ (l : List ℕ). difference_text m said l) same.2 ∙ sym is_too

-- a text has no difference from itself to show
none_reported : (one other a : List ℕ) → TellsDifference one other a → one ≡ other → ⊥
none_reported one other a (n, told, has, first, is) same = no_difference one other n told has first same

-- if a transcript has one replay, it has one explanation
pub one_explanation : ((t r s : Transcript) → IsReplayOf t r → IsReplayOf t s → r ≡ s) → (t : Transcript)
    (one other : List ℕ) → IsExplanation t one → IsExplanation t other → one ≡ other
one_explanation determined t one other h k = by_cases h.shown k.shown where
  same : h.replay ≡ k.replay
  same = determined t h.replay k.replay h.replays k.replays

  by_cases : ((h.replay ≡ t) × (one ≡ [])) ⊎ TellsDifference (transcript_text t) (transcript_text h.replay) one
      → ((k.replay ≡ t) × (other ≡ [])) ⊎ TellsDifference (transcript_text t) (transcript_text k.replay) other
      → one ≡ other
  by_cases (inl a) (inl b) = a.1 ∙ sym b.1
  by_cases (inl a) (inr d) = absurd (none_reported _ _ _ d (ap transcript_text (sym a.0 ∙ same)))
  by_cases (inr d) (inl b) = absurd (none_reported _ _ _ d (ap transcript_text (sym (same ∙ b.0))))
  by_cases (inr d) (inr e) = same_output (transcript_text t) (transcript_text k.replay) one other
      (subst (λ (r : Transcript). TellsDifference (transcript_text t) (transcript_text r) one) same d) e
