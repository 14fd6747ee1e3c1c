-- Rows of flags, and the list of hung-up streams.
use Rattle.smx_model.proofs.Common.{◌≡◌, ℕ, zero, suc, ◌+◌, ◌<◌, Bool, true, false, ◌&&◌, ◌||◌, eqb, List, [], ◌∷◌}
use Rattle.smx_model.proofs.Common.{◌++◌, get_or, refl, ap, ◌∙◌, arith, or_from, or_left, nat_tests, StreamId}
use Rattle.smx_model.proofs.Common.{same_stream, stream_before, is_hung, ComesBefore, IsRising}
use Rattle.std.proofs.Math.Bool.{or-false}
use Rattle.std.proofs.lemmas.List.Folds.{list_any-append}
use Rattle.smx_streams.specs.HungRows.{flag_at, hung_from, hungs_from}
use Rattle.smx_streams.proofs.ListLemmas.{comes_both}

-- the stream of a driver and a minor
abbrev pub stream : ℕ → ℕ → StreamId
stream d m = record { driver = d; minor = m }

-- a stream is in two joined lists exactly if it is in one of them
hung_both : (xs ys : List StreamId) (s : StreamId) → is_hung (xs ++ ys) s ≡ (is_hung xs s || is_hung ys s)
hung_both xs ys s = list_any-append (λ t. same_stream t s) xs ys

-- a row has no stream of another driver, and none of an earlier minor

-- the row of one driver has no stream of another driver
other_driver : (d n e m : ℕ) (flags : List Bool) → eqb d e ≡ false → is_hung (hung_from d n flags) (stream e m) ≡ false
other_driver d n e m [] h = refl
other_driver d n e m (false ∷ flags) h = other_driver d (n + 1) e m flags h
other_driver d n e m (true ∷ flags) h = or_from _ _ (rw h refl) (other_driver d (n + 1) e m flags h)

-- a row has no stream of a minor before its first one
earlier_minor : (d n e m : ℕ) (flags : List Bool) → m < n → is_hung (hung_from d n flags) (stream e m) ≡ false
earlier_minor d n e m [] h = refl
earlier_minor d n e m (false ∷ flags) h = earlier_minor d (n + 1) e m flags (omega arith)
earlier_minor d n e m (true ∷ flags) h = grind (arith, nat_tests, earlier_minor d (n + 1) e m flags (omega arith))

-- adding one more is starting one later
one_further : (n k : ℕ) → n + suc k ≡ (n + 1) + k
one_further n k = omega arith

-- in a driver's row, the stream of a minor has hung up exactly if its flag is set
in_row : (d n k : ℕ) (flags : List Bool) → is_hung (hung_from d n flags) (stream d (n + k)) ≡ get_or flags k false
in_row d n k [] = refl
in_row d n zero (false ∷ flags) = earlier_minor d (n + 1) d (n + 0) flags (omega arith)
in_row d n zero (true ∷ flags) = or_left (eqb d d && eqb n (n + 0)) _ (grind (arith, nat_tests))
in_row d n (suc k) (false ∷ flags) = grind (arith, stream d, one_further n k, in_row d (n + 1) k flags)
in_row d n (suc k) (true ∷ flags) = grind (arith, stream d, one_further n k, in_row d (n + 1) k flags)

-- rows have no stream of an earlier driver

-- the rows from a driver on have no stream of an earlier driver
earlier_driver : (d e m : ℕ) (rows : List (List Bool)) → e < d → is_hung (hungs_from d rows) (stream e m) ≡ false
earlier_driver d e m [] h = refl
earlier_driver d e m (row ∷ rows) h = hung_both (hung_from d 0 row) (hungs_from (d + 1) rows) (stream e m)
    ∙ or_from _ _ (other_driver d 0 e m row (grind (arith, nat_tests))) (earlier_driver (d + 1) e m rows (omega arith))

-- in the rows from a driver on, a stream of one of these drivers has hung up exactly if its flag is set
in_rows : (d j m : ℕ) (rows : List (List Bool))
    → is_hung (hungs_from d rows) (stream (d + j) m) ≡ get_or (get_or rows j []) m false
in_rows d j m [] = refl
in_rows d zero m (row ∷ rows) = hung_both (hung_from d 0 row) (hungs_from (d + 1) rows) (stream (d + 0) m)
    ∙ (ap (λ (b : Bool). is_hung (hung_from d 0 row) (stream (d + 0) m) || b)
    (earlier_driver (d + 1) (d + 0) m rows (omega arith))
    ∙ (or-false _ ∙ (ap (λ (e : ℕ). is_hung (hung_from d 0 row) (stream e m)) (plus_zero d)
    ∙ (ap (λ (k : ℕ). is_hung (hung_from d 0 row) (stream d k)) (zero_plus m) ∙ in_row d 0 m row)))) where
      plus_zero : (d : ℕ) → d + 0 ≡ d
      plus_zero d = omega arith

      zero_plus : (k : ℕ) → k ≡ 0 + k
      zero_plus k = omega arith
in_rows d (suc j) m (row ∷ rows) =
    grind (arith, hung_both, hungs_from, stream, other_driver, nat_tests, one_further, in_rows (d + 1) j m rows)

-- the streams whose flag is set are those that have hung up
pub flag_tells : (rows : List (List Bool)) (s : StreamId) → is_hung (hungs_from 0 rows) s ≡ flag_at rows s
flag_tells rows s = grind (arith, hungs_from 0 rows, stream, in_rows 0 s.driver s.minor rows)

-- in order

-- a stream that comes before the first one of a row comes before the whole row
later_row : (d m e n : ℕ) (flags : List Bool) → stream_before (stream d m) (stream e n) ≡ true
    → ComesBefore stream_before (stream d m) (hung_from e n flags)
later_row d m e n [] h = tt
later_row d m e n (false ∷ flags) h = later_row d m e (n + 1) flags (grind (arith, nat_tests))
later_row d m e n (true ∷ flags) h = (h, later_row d m e (n + 1) flags (grind (arith, nat_tests)))

-- a stream of an earlier driver comes before all streams in the rows of later drivers
later_rows : (d m e : ℕ) (rows : List (List Bool)) → d < e → ComesBefore stream_before (stream d m) (hungs_from e rows)
later_rows d m e [] h = tt
later_rows d m e (row ∷ rows) h = comes_both stream_before (stream d m) (hung_from e 0 row) (hungs_from (e + 1) rows)
    (later_row d m e 0 row (grind (arith, nat_tests))) (later_rows d m (e + 1) rows (omega arith))

-- a row before ordered streams, all of which come after its driver's, is in order with them
rising_row : (d n : ℕ) (flags : List Bool) (rest : List StreamId) → IsRising stream_before rest
    → ((m : ℕ) → ComesBefore stream_before (stream d m) rest) → IsRising stream_before (hung_from d n flags ++ rest)
rising_row d n [] rest h after = h
rising_row d n (false ∷ flags) rest h after = rising_row d (n + 1) flags rest h after
rising_row d n (true ∷ flags) rest h
    after = (
      comes_both stream_before (stream d n) (hung_from d (n + 1) flags) rest
          (later_row d n d (n + 1) flags (grind (arith, nat_tests))) (after n),
      rising_row d (n + 1) flags rest h after,
    )

-- the streams whose flags are set are in order
pub hungs_rise : (d : ℕ) (rows : List (List Bool)) → IsRising stream_before (hungs_from d rows)
hungs_rise d [] = tt
hungs_rise d (row ∷ rows) = rising_row d 0 row (hungs_from (d + 1) rows) (hungs_rise (d + 1) rows)
    (λ m. later_rows d m (d + 1) rows (omega arith))
