-- The programs of at most one process have only one report.
use Rattle.std.proofs.Common.{◌≡◌, ◌≢◌, ℕ, zero, suc, ◌≤◌, eqb, true, false, List, [], ◌∷◌, length, map, refl, sym, ap}
use Rattle.std.proofs.Common.{◌∙◌, arith, inl, inr}
use Rattle.std.proofs.lemmas.Bool.{cases_eq, eq-eqb, ne_eqb}
use Rattle.std.proofs.lemmas.List.{append-nil}
use Rattle.std.specs.Prelude.{slice_index_or}
use Rattle.smx_types.specs.declared.command.Command.{Command}
use Rattle.smx_types.specs.declared.command.Entry.{Entry}
use Rattle.smx_model.specs.Histories.{call_of, commands_of, HoldsPrograms}
use Rattle.smx_run.specs.ProgramOrder.{calls_from, calls_of}

-- an entry's command comes first among those of its process
pub own : (e : Entry) (es : List Entry) (p : ℕ) → e.process ≡ p → commands_of p (e ∷ es) ≡ e.command ∷ commands_of p es
own e es p same = let t : eqb e.process p ≡ true = eq-eqb e.process p same in rw t refl

-- it is not among those of another process
pub another : (e : Entry) (es : List Entry) (p : ℕ) → e.process ≢ p → commands_of p (e ∷ es) ≡ commands_of p es
another e es p differs = let f : eqb e.process p ≡ false = ne_eqb e.process p differs in rw f refl

-- if no process has a program, there is no entry
none : (es : List Entry) → HoldsPrograms es [] → es ≡ []
none [] h = refl
none (e ∷ es) h =
    let e : e.command ∷ commands_of e.process es ≡ [] = sym (own e es e.process refl) ∙ h e.process in absurd cc

-- if one process has a program, the entries are its commands
alone : (c : List Command) (es : List Entry) → HoldsPrograms es (c ∷ []) → map call_of es ≡ calls_of 0 c
alone c [] h = ap (calls_of 0) (h 0)
alone c (e ∷ es) h = elim (cases_eq e.process 0) [
  | inl mine ↦
      let rest = commands_of 0 es in
      let all : e.command ∷ rest ≡ c = sym (own e es 0 mine) ∙ h 0 in
      let others : HoldsPrograms es (rest ∷ []) = λ p. left rest mine p in
      let first : call_of e ≡ (0, e.command) = ap (λ (p : ℕ). (p, e.command)) mine in
      ap (λ x. x ∷ map call_of es) first ∙ ap (λ xs. (0, e.command) ∷ xs) (alone rest es others) ∙ ap (calls_of 0) all
  | inr not_mine ↦ absurd (strange e.process refl not_mine)
] where
  -- the entries after the first hold the remaining commands of the one program
  left : (rest : List Command) → e.process ≡ 0 → (p : ℕ)
      → commands_of p es ≡ slice_index_or (commands_of 0 es ∷ []) p []
  left rest mine zero = refl
  left rest mine (suc p) = sym (another e es (suc p) (λ is. absurd (omega (arith, mine, is)))) ∙ h (suc p)

  -- no entry is of another process than the first
  strange : (p : ℕ) → e.process ≡ p → e.process ≢ 0 → ⊥
  strange zero is not_mine = not_mine is
  strange (suc p) is not_mine =
      let e : e.command ∷ commands_of (suc p) es ≡ [] = sym (own e es (suc p) is) ∙ h (suc p) in absurd cc

-- so the programs come one after the other
pub in_turn : (programs : List (List Command)) (es : List Entry) → length programs ≤ 1 → HoldsPrograms es programs
    → map call_of es ≡ calls_from 0 programs
in_turn [] es few h = ap (map call_of) (none es h)
in_turn (c ∷ []) es few h = alone c es h ∙ sym (append-nil (calls_of 0 c))
in_turn (c ∷ d ∷ more) es few h = absurd (omega arith)
