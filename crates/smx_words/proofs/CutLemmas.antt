-- Bytes split at a separator, and two ways to split the same bytes.
use Rattle.smx_words.proofs.Common.{◌≡◌, ◌≢◌, ℕ, zero, suc, ◌+◌, ◌-◌, ◌<◌, ◌≤◌, Bool, true, false, eqb, List, [], ◌∷◌}
use Rattle.smx_words.proofs.Common.{◌++◌, length, slice_index, take, drop, refl, sym, ap, ◌∙◌, arith, nat_tests}
use Rattle.smx_words.proofs.Common.{SPACE, IsFree}
use Rattle.std.proofs.Common.{drop-cons, add-one}
use Rattle.std.proofs.Math.Seq.{get_or-append_seam}
use Rattle.std.proofs.lemmas.List.{length-append, take-append-drop, take_rest}
use Rattle.std.specs.Prelude.{IsTrue, ◌↔◌}
use Rattle.memchr.specs.Find.{Nowhere, Passes, is_byte}

-- bytes that do not contain the separator are not split
pub not_cut : (s : ℕ) (bytes : List ℕ) → Nowhere (Passes (is_byte s) bytes) 0 (length bytes)
    → (before after : List ℕ) → bytes ≡ before ++ s ∷ after → ⊥
not_cut s bytes none before after e =
    let here : slice_index bytes (length before) ≡ s = ap (λ (xs : List ℕ). slice_index xs (length before)) e
    ∙ get_or-append_seam before s after 0 in
    let long : length bytes ≡ length before + suc (length after) = ap (length {A = ℕ}) e
    ∙ length-append before (s ∷ after) in
    none (length before) (omega arith) (omega (arith, long)) (grind (arith, nat_tests))

-- the bytes before the first separator do not contain it
pub free_front : (s : ℕ) (bytes : List ℕ) (i : ℕ) → ((k : ℕ) → k < i → eqb (slice_index bytes k) s ≡ true → ⊥)
    → i ≤ length bytes → IsFree s (take i bytes)
free_front s bytes zero none in_it = tt
free_front s [] (suc i) none in_it = absurd (omega arith)
free_front s (b ∷ bytes) (suc i) none in_it = (
  λ e. none 0 (omega arith) (grind (arith, nat_tests)),
  free_front s bytes i (λ k lt is. none (suc k) (omega arith) is) (omega arith),
)

-- bytes are the bytes before a separator, the separator, and the bytes after it
pub is_cut : (s : ℕ) (bytes : List ℕ) (i : ℕ) → i < length bytes → slice_index bytes i ≡ s
    → bytes ≡ take i bytes ++ s ∷ take (length bytes - (i + 1)) (drop (i + 1) bytes)
is_cut s bytes i lt here =
    let rest = take_rest bytes (i + 1) in
    let at = drop-cons bytes i 0 lt in
    sym (take-append-drop i bytes) ∙ ap (λ (xs : List ℕ). take i bytes ++ xs)
    (rw (at, rest, add-one) (ap (λ (b : ℕ). b ∷ drop (suc i) bytes) here))

-- bytes that do not contain the separator as a whole are not split
pub free_whole : (s : ℕ) (bytes : List ℕ) (i : ℕ) → length bytes ≤ i → IsFree s (take i bytes)
    → (before after : List ℕ) → bytes ≢ before ++ s ∷ after
free_whole s [] i le free before after e = no_middle before (sym e) where
  no_middle : (before : List ℕ) → before ++ s ∷ after ≡ [] → ⊥
  no_middle [] e = absurd (cc e)
  no_middle (b ∷ before) e = absurd (cc e)
free_whole s (b ∷ bytes) zero le free before after e = absurd (omega arith)
free_whole s (b ∷ bytes) (suc i) le free [] after e = free.0 (cc e)
free_whole s (b ∷ bytes) (suc i) le free (c ∷ before) after e =
    free_whole s bytes i (omega arith) free.1 before after (cc e)

-- two ways to split at the first separator are the same
pub apart : (s : ℕ) (v w after rest : List ℕ) → IsFree s v → IsFree s w → v ++ s ∷ after ≡ w ++ s ∷ rest
    → (v ≡ w) × (after ≡ rest)
apart s [] [] after rest h k e = (refl, cc e)
apart s [] (c ∷ w) after rest h k e = absurd (k.0 (cc e))
apart s (b ∷ v) [] after rest h k e = absurd (h.0 (cc e))
apart s (b ∷ v) (c ∷ w) after rest h k e =
    let more = apart s v w after rest h.1 k.1 (cc e) in
    let first : b ≡ c = cc e in
    (cc (first, more.0), more.1)

-- if the word before the first space spells no value, the bytes start with no value's word and a space
pub no_field : {X : Type 0} (Fits : X → Type 0) (word_of : X → List ℕ)
    → ((x : X) → Fits x → IsFree SPACE (word_of x)) → (bytes word rest : List ℕ) → IsFree SPACE word
    → bytes ≡ word ++ SPACE ∷ rest
    → ((x : X) → Fits x → word ≢ word_of x) → (x : X) (after : List ℕ) → Fits x → bytes ≢ word_of x ++ SPACE ∷ after
no_field Fits word_of free bytes word rest clear is none x after fits e =
    none x fits (apart SPACE word (word_of x) rest after clear (free x fits) (sym is ∙ e)).0

-- bytes that fail a comparison with a word are not that word
pub differs : (bytes word : List ℕ) (r : Bool) → (IsTrue r ↔ (bytes ≡ word)) → r ≡ false → bytes ≢ word
differs bytes word r is other e = let same = is.1 e in absurd (cc (same, other))

-- bytes that contain a space are not a word without spaces
pub no_space_in : (v after w : List ℕ) → IsFree SPACE w → v ++ SPACE ∷ after ≡ w → ⊥
no_space_in [] after [] free bad = absurd (cc bad)
no_space_in [] after (c ∷ w) free bad = free.0 (sym (cc bad))
no_space_in (b ∷ v) after [] free bad = absurd (cc bad)
no_space_in (b ∷ v) after (c ∷ w) free bad = no_space_in v after w free.1 (cc bad)
