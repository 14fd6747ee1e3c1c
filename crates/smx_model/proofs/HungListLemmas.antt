-- Lists of hung-up streams are determined by their streams.
use Rattle.smx_model.proofs.Common.{◌≡◌, ℕ, Bool, true, false, ◌&&◌, ◌||◌, eqb, List, [], ◌∷◌, filter, refl, sym, ap}
use Rattle.smx_model.proofs.Common.{◌∙◌, arith, inl, inr, both_ways, cases_Bool, false≢true, or_from, or_left}
use Rattle.smx_model.proofs.Common.{nat_tests, StreamId, pair_before, same_stream, stream_before, is_hung, with_hung}
use Rattle.smx_model.proofs.Common.{ComesBefore, IsRising}
use Rattle.smx_model.proofs.EachLemmas.{each_map}
use Rattle.smx_model.proofs.RisingLemmas.{stream_trans}
use Rattle.smx_model.proofs.SweptLemmas.{stream_self}
use Rattle.smx_model.proofs.TestLemmas.{any_of_placed}
use Rattle.smx_model.proofs.TurningLemmas.{same_stream_is}

-- if a pair of numbers comes before another, the pairs differ
later_differs : (a b c d : ℕ) → pair_before a b c d ≡ true → (eqb c a && eqb d b) ≡ false
later_differs a b c d h = grind (arith, nat_tests)

-- two pairs of numbers neither of which comes before the other are equal
neither_is_same : (a b c d : ℕ) → pair_before a b c d ≡ false → pair_before c d a b ≡ false
    → (eqb a c && eqb b d) ≡ true
neither_is_same a b c d h k = grind (arith, nat_tests)

-- a stream that comes before each of some streams is not among them
before_none : (s : StreamId) (xs : List StreamId) → ComesBefore stream_before s xs → is_hung xs s ≡ false
before_none s [] h = refl
before_none s (x ∷ xs) h = or_from _ _ (later_differs s.driver s.minor x.driver x.minor h.0) (before_none s xs h.1)

-- the first stream of a list of hung-up streams has hung up
first_is_hung : (x : StreamId) (xs : List StreamId) → is_hung (x ∷ xs) x ≡ true
first_is_hung x xs = or_left _ _ (stream_self x)

-- if (a or b) equals (a or c), and neither b nor c holds together with a, b equals c
same_others : (a b c : Bool) → (a || b) ≡ (a || c) → (a ≡ true → b ≡ false) → (a ≡ true → c ≡ false) → b ≡ c
same_others true b c e m n = m refl ∙ sym (n refl)
same_others false b c e m n = e

-- two rising lists with the same streams are equal
pub one_list : (xs ys : List StreamId) → IsRising stream_before xs → IsRising stream_before ys
    → ((s : StreamId) → is_hung xs s ≡ is_hung ys s) → xs ≡ ys
one_list [] [] h k same = refl
one_list [] (y ∷ ys) h k same = absurd (false≢true (same y ∙ first_is_hung y ys))
one_list (x ∷ xs) [] h k same = absurd (false≢true (sym (same x) ∙ first_is_hung x xs))
one_list (x ∷ xs) (y ∷ ys) h k same = elim (cases_Bool (stream_before x y)) [
  | inl t ↦
      absurd (both_ways (is_hung (y ∷ ys) x)
      (before_none x (y ∷ ys) (t, each_map _ _ ys (λ z. stream_trans x y z t) k.0))
      (sym (same x) ∙ first_is_hung x xs))
  | inr f ↦ elim (cases_Bool (stream_before y x)) [
    | inl t ↦
        absurd (both_ways (is_hung (x ∷ xs) y)
        (before_none y (x ∷ xs) (t, each_map _ _ xs (λ z. stream_trans y x z t) h.0))
        (same y ∙ first_is_hung y ys))
    | inr g ↦
        let e : x ≡ y = same_stream_is x y (neither_is_same x.driver x.minor y.driver y.minor f g) in
        let tails : xs ≡ ys = one_list xs ys h.1 k.1 (λ s. same_others (same_stream x s) (is_hung xs s) (is_hung ys s)
        (same s ∙ ap (λ (z : StreamId). same_stream z s || is_hung ys s) (sym e))
        (λ t. ap (is_hung xs) (sym (same_stream_is x s t)) ∙ before_none x xs h.0)
        (λ t. ap (is_hung ys) (sym (same_stream_is x s t)) ∙ ap (is_hung ys) e ∙ before_none y ys k.0)) in
        ap (λ (z : StreamId). z ∷ xs) e ∙ ap (λ (zs : List StreamId). y ∷ zs) tails
  ]
]

-- after one more stream hangs up, the hung-up streams are those from before and this one
pub hung_with : (s t : StreamId) (hungs : List StreamId)
    → is_hung (with_hung s hungs) t ≡ (same_stream s t || is_hung hungs t)
hung_with s t hungs = grind (arith, same_stream_is s t, any_of_placed)

-- a filter keeps exactly the hung-up streams that pass
pub hung_kept_by : (keep : StreamId → Bool) (s : StreamId) (hungs : List StreamId)
    → is_hung (filter keep hungs) s ≡ (keep s && is_hung hungs s)
hung_kept_by keep s [] = grind arith
hung_kept_by keep s (x ∷ xs) = grind (arith, same_stream_is x s, hung_kept_by keep s xs)
