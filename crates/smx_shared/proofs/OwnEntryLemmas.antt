-- Histories that begin alike, and the entries of one process in them.
use Rattle.std.proofs.Common.{◌≡◌, ◌≢◌, ℕ, ◌+◌, ◌<◌, ◌≤◌, List, [], ◌∷◌, ◌++◌, Bool, refl, sym, ap, ◌∙◌, append_assoc}
use Rattle.std.proofs.Common.{append-nil, arith, eq-eqb, cond, inl, inr}
use Rattle.std.specs.Prelude.{◌==◌}
use Rattle.std.proofs.lemmas.List.Elements.{filter-append}
use Rattle.std.proofs.lemmas.Bool.{ne_eqb}
use Rattle.smx_types.specs.declared.command.Entry.{Entry}
use Rattle.smx_shared.specs.Seats.{entries_of, AreNamedBelow, GoesOnNamed, IsBeginningOf}
use Rattle.smx_shared.specs.SeatViews.{AddsFor}
use Rattle.smx_shared.proofs.EachLemmas.{all_append, all_weaker}
use Rattle.smx_model.proofs.Common.{rules}

-- ---- beginnings

-- a beginning of a beginning of a history is a beginning of it
pub begins_trans : (xs ys zs : List Entry) → IsBeginningOf xs ys → IsBeginningOf ys zs → IsBeginningOf xs zs
begins_trans xs ys zs p q = (p.0 ++ q.0, sym (append_assoc xs p.0 q.0) ∙ ap (λ (l : List Entry). l ++ q.0) p.1 ∙ q.1)

-- a history is a beginning of itself
pub begins_itself : (xs : List Entry) → IsBeginningOf xs xs
begins_itself xs = ([], append-nil xs)

-- ---- the entries of a process

-- the entries of a process in two histories, one after the other, are those in the first, then those in the second
pub entries_append : (p : ℕ) (xs ys : List Entry) → entries_of p (xs ++ ys) ≡ entries_of p xs ++ entries_of p ys
entries_append p xs ys = filter-append (λ (e : Entry). e.process == p) xs ys

-- a process has its own entry
pub entries_mine : (p : ℕ) (e : Entry) → e.process ≡ p → entries_of p (e ∷ []) ≡ e ∷ []
entries_mine p e is = ap (λ (b : Bool). cond b (e ∷ []) []) (eq-eqb e.process p is)

-- a process has no entry of another process
pub entries_other : (p : ℕ) (e : Entry) → e.process ≢ p → entries_of p (e ∷ []) ≡ []
entries_other p e is = ap (λ (b : Bool). cond b (e ∷ []) []) (ne_eqb e.process p is)

-- a process that is not named yet has no entries among those of named processes
pub entries_none : (n p : ℕ) (more : List Entry) → AreNamedBelow n more → n ≤ p → entries_of p more ≡ []
entries_none n p [] below le = refl
entries_none n p (e ∷ es) below le = grind (arith, entries_none n p es below.1 le)

-- ---- histories that go on by named processes

-- going on by named processes is transitive
pub goes_on_trans : (n : ℕ) (xs ys zs : List Entry) → GoesOnNamed n xs ys → GoesOnNamed n ys zs → GoesOnNamed n xs zs
unfolding begins_trans
goes_on_trans n xs ys zs p q =
    let t = begins_trans xs ys zs (p.0, p.1) (q.0, q.1) in
    (t.0, t.1, all_append (λ (e : Entry). e.process < n) p.0 q.0 p.2 q.2)

-- a history goes on from itself by no entry
pub goes_on_itself : (n : ℕ) (xs : List Entry) → GoesOnNamed n xs xs
goes_on_itself n xs = ([], append-nil xs, tt)

-- a history that goes on by named processes does so with one more name
pub goes_on_more : (n : ℕ) (xs ys : List Entry) → GoesOnNamed n xs ys → GoesOnNamed (n + 1) xs ys
goes_on_more n xs ys p = (
  p.0,
  p.1,
  all_weaker (λ (e : Entry). e.process < n) (λ (e : Entry). e.process < n + 1)
      (λ (e : Entry) (below : e.process < n). omega arith) p.0 p.2,
)

-- a history that goes on from another one by named processes begins with it
pub goes_on_begins : (n : ℕ) (xs ys : List Entry) → GoesOnNamed n xs ys → IsBeginningOf xs ys
goes_on_begins n xs ys p = (p.0, p.1)

-- the entries of a process that is not named yet have been seen
pub entries_early : (n p : ℕ) (xs h : List Entry) → GoesOnNamed n xs h → n ≤ p → entries_of p xs ≡ entries_of p h
entries_early n p xs h l le = search (rules, entries_none n p l.0 l.2 le, entries_append p xs l.0)

-- ---- one entry of a process, or none

-- if the process is named, the history goes on by entries of named processes
pub adds_named : (p n : ℕ) (old new : List Entry) → AddsFor p old new → p < n → GoesOnNamed n old new
adds_named p n old new (inl same) lt = ([], append-nil old ∙ sym same, tt)
adds_named p n old new (inr one) lt = grind arith

-- the new history begins with the old one
pub adds_begins : (p : ℕ) (old new : List Entry) → AddsFor p old new → IsBeginningOf old new
adds_begins p old new (inl same) = ([], append-nil old ∙ sym same)
adds_begins p old new (inr one) = (one.0 ∷ [], sym one.2)

-- the entries of another process are unchanged
pub others_stay : (p q : ℕ) (old new : List Entry) → AddsFor p old new → q ≢ p → entries_of q old ≡ entries_of q new
others_stay p q old new (inl same) apart = ap (entries_of q) (sym same)
others_stay p q old new (inr one) apart = search (rules, entries_other q one.0, entries_append q old (one.0 ∷ []))
