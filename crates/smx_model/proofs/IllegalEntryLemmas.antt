-- A history is legal or has one first illegal entry; the first illegal entry of an example.
use Rattle.smx_model.proofs.Common.{◌≡◌, ◌≢◌, ℕ, zero, suc, ◌+◌, ◌<◌, ◌⊎◌, inl, inr, List, [], ◌∷◌, length, take, Some}
use Rattle.smx_model.proofs.Common.{refl, sym, subst, arith, slice_get, Entry, DriverSpec, Reply, step}
use Rattle.smx_model.proofs.Common.{Configuration, empty, after_from, IsLegal, IsLegalFrom}
use Rattle.std.proofs.lemmas.Bool.Decides.{not_from_Decides}
use Rattle.std.proofs.lemmas.List.{take_all}
use Rattle.std.proofs.lemmas.Option.{slice_get_within}
use Rattle.smx_types.specs.SameLemmas.{reply_tells}
use Rattle.smx_model.specs.IllegalEntries.{IsFirstIllegal}
use Rattle.smx_model.specs.Worked.Common.{Fd}
use Rattle.smx_model.specs.Worked.SecondIsIllegal as second

-- the reply that the command of an entry gets
abbrev reply_to : List DriverSpec → Configuration → Entry → Reply
reply_to drivers c e = (step drivers c e.process e.command).1

-- two replies are equal, or not
same_or_not : (r s : Reply) → (r ≡ s) ⊎ (r ≢ s)
same_or_not r s = grind (arith, reply_tells r s, not_from_Decides _ (reply_tells r s))

-- each entry of a prefix that is legal from a configuration has the reply that its command gets
reply_before : (drivers : List DriverSpec) (c : Configuration) (es : List Entry) (m n : ℕ) (e : Entry)
    → m < n → IsLegalFrom drivers c (take n es) → slice_get es m ≡ Some e
    → reply_to drivers (after_from drivers c (take m es)) e ≡ e.reply
reply_before drivers c [] m n e lt legal here = grind (arith, slice_get_within)
reply_before drivers c (x ∷ es) zero zero e lt legal here = absurd (omega (arith, lt))
reply_before drivers c (x ∷ es) (suc m) zero e lt legal here = absurd (omega (arith, lt))
reply_before drivers c (x ∷ es) zero (suc n) e lt legal here = grind arith
reply_before drivers c (x ∷ es) (suc m) (suc n) e lt legal here =
    reply_before drivers (step drivers c x.process x.command).0 es m n e (omega (arith, lt)) legal.1 here

-- an entry is the first illegal one, starting from this configuration
abbrev FirstFrom : List DriverSpec → Configuration → List Entry → Type 0
FirstFrom drivers c es =
    (before : ℕ) × (e : Entry) × (slice_get es before ≡ Some e) × IsLegalFrom drivers c (take before es)
    × (reply_to drivers (after_from drivers c (take before es)) e ≢ e.reply)

-- entries are legal from a configuration, or one of them is the first illegal one
either_from : (drivers : List DriverSpec) (c : Configuration) (es : List Entry)
    → IsLegalFrom drivers c es ⊎ FirstFrom drivers c es
either_from drivers c [] = inl tt
either_from drivers c (e ∷ es) = elim (same_or_not (reply_to drivers c e) e.reply) [
  | inr other ↦ inr (0, e, refl, tt, other)
  | inl same ↦ elim (either_from drivers (step drivers c e.process e.command).0 es) [
    | inl legal ↦ inl (same, legal)
    | inr later ↦ inr (suc later.0, later.1, later.2, (same, later.3), later.4)
  ]
]

-- a history is legal, or one of its entries is the first illegal one
pub legal_or_first : (drivers : List DriverSpec) (es : List Entry)
    → IsLegal drivers es ⊎ ((n : ℕ) × IsFirstIllegal drivers es n)
legal_or_first drivers es = elim (either_from drivers empty es) [
  | inl legal ↦ inl legal
  | inr (before, e, here, legal, other) ↦ inr (
    before + 1,
    record { before = before; counted = refl; entry = e; here = here; legal_before = legal; other_reply = other },
  )
]

-- a legal history has no illegal entry
pub not_both : (drivers : List DriverSpec) (es : List Entry) (n : ℕ)
    → IsLegal drivers es → IsFirstIllegal drivers es n → ⊥
not_both drivers es n legal h =
    let all = take_all (length es) es (omega arith) in
    let whole : IsLegal drivers (take (length es) es) = subst (IsLegal drivers) (sym all) legal in
    let within = slice_get_within es h.before h.entry h.here in
    h.other_reply (reply_before drivers empty es h.before (length es) h.entry within whole h.here)

-- an entry before the first illegal one is not illegal
not_before : (drivers : List DriverSpec) (es : List Entry) (m n : ℕ) → (h : IsFirstIllegal drivers es m)
    → (k : IsFirstIllegal drivers es n) → h.before < k.before → ⊥
not_before drivers es m n h k lt =
    h.other_reply (reply_before drivers empty es h.before k.before h.entry lt k.legal_before h.here)

-- the number of the first illegal entry of a history is unique
pub one_number : (drivers : List DriverSpec) (es : List Entry) (m n : ℕ)
    → IsFirstIllegal drivers es m → IsFirstIllegal drivers es n → m ≡ n
one_number drivers es m n h k = grind (arith, not_before drivers es m n h k, not_before drivers es n m k h)

-- the second entry of the example is the first illegal one
pub second_is : IsFirstIllegal second.drivers second.history 2
second_is = record {
  before = 1;
  counted = refl;
  entry = second.illegal;
  here = refl;
  legal_before = (refl, tt);
  other_reply = λ e. let differ : Fd 0 1 ≡ Fd 0 2 = e in absurd cc;
}
