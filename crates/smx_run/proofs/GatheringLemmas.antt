-- The entries of each process in a history.
use Rattle.smx_run.proofs.Common.{◌≡◌, ◌≢◌, ℕ, suc, All, ◌<◌, ◌≤◌, false, List, [], ◌∷◌, ◌++◌, length, None}
use Rattle.smx_run.proofs.Common.{refl, sym, subst, ap, ◌∙◌, arith, ◌==◌, nat_tests, append-nil}
use Rattle.smx_run.proofs.Common.{Entry, MAX_PROCESSES, IsBorneOut, IsMet}
use Rattle.std.proofs.Common.{Option, Some, true≢false}
use Rattle.std.specs.Prelude.{◌↔◌, Bool, IsTrue}
use Rattle.std.specs.Option.{option_eq}
use Rattle.std.proofs.lemmas.Bool.Decides.{Decides-eqb}
use Rattle.std.proofs.lemmas.List.{get_or_past, length-take-le, take_all}
use Rattle.smx_run.specs.Gathering.{entries_of}
use Rattle.smx_shared.proofs.OwnEntryLemmas.{entries_append, entries_mine, entries_other}

-- the entries of a process after an entry of its own
pub met_more : (transcript es more : List Entry) (e : Entry) (p : ℕ) (r : Option ℕ) → more ≡ es ++ e ∷ []
    → e.process ≡ p → IsMet transcript (entries_of p es ++ e ∷ []) r → IsMet transcript (entries_of p more) r
met_more transcript es more e p r added its h =
    subst (λ (own : List Entry). IsMet transcript own r) (sym (ap (entries_of p) added ∙ entries_append p es (e ∷ [])
    ∙ ap (λ (one : List Entry). entries_of p es ++ one) (entries_mine p e its))) h

-- and after an entry of another process
pub met_still : (transcript es more : List Entry) (e : Entry) (p : ℕ) (r : Option ℕ) → more ≡ es ++ e ∷ []
    → e.process ≢ p → IsMet transcript (entries_of p es) r → IsMet transcript (entries_of p more) r
met_still transcript es more e p r added other h =
    subst (λ (own : List Entry). IsMet transcript own r) (sym (ap (entries_of p) added ∙ entries_append p es (e ∷ [])
    ∙ ap (λ (one : List Entry). entries_of p es ++ one) (entries_other p e other) ∙ append-nil (entries_of p es))) h

-- the entries of a process are its transcript exactly if that is their number
pub whole_if_met : (transcript own : List Entry) (met : Option ℕ) (r : Bool) → IsMet transcript own met
    → r ≡ option_eq (λ (m n : ℕ). m == n) met (Some (length transcript)) → IsTrue r ↔ (own ≡ transcript)
whole_if_met transcript own None r h is =
    ((λ t. absurd (true≢false (sym t ∙ is))), (λ is_whole. absurd (h [] (append-nil own ∙ is_whole))))
whole_if_met transcript own (Some n) r h is =
    let told = Decides-eqb n (length transcript) in (
      (λ t. h.1 ∙ take_all n transcript (omega (arith, told.0 (sym is ∙ t)))),
      (λ is_whole. is ∙ told.1 (sym (length-take-le n transcript h.0)
          ∙ ap (λ (es : List Entry). length es) (sym h.1 ∙ is_whole))),
    )

-- a process past the last has no entry
no_entries : (p : ℕ) (es : List Entry) → MAX_PROCESSES ≤ p → All (λ (e : Entry). e.process < MAX_PROCESSES) es
    → entries_of p es ≡ []
no_entries p [] past all = refl
no_entries p (e ∷ es) past all =
    let here : e.process < MAX_PROCESSES = all 0 e (omega arith) in
    let other : (e.process == p) ≡ false = grind (arith, nat_tests) in
    rw other (no_entries p es past (λ k d below. all (suc k) d (omega arith)))

-- if no process is strange, no process past the last is either
pub all_borne_out : (history : List Entry) (transcripts : List (List Entry)) → length transcripts ≤ MAX_PROCESSES
    → All (λ (e : Entry). e.process < MAX_PROCESSES) history
    → ((p : ℕ) → p < MAX_PROCESSES → IsBorneOut history transcripts p) → (p : ℕ) → IsBorneOut history transcripts p
all_borne_out history transcripts few within each p = grind (arith, each p, no_entries, get_or_past)
