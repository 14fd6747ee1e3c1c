-- The words of a line: no word contains a space, and the line determines them.
use Rattle.smx_words.proofs.Common.{◌≡◌, ◌≢◌, ℕ, zero, suc, ◌<◌, ◌≤◌, false, eqb, List, [], ◌∷◌, ◌++◌, length, refl}
use Rattle.smx_words.proofs.Common.{sym, ap, ◌∙◌, arith, AllByRecursion, nat_tests, IsFree, IsWord, SPACE, line_of}
use Rattle.std.specs.List.{All, slice_split}
use Rattle.std.proofs.lemmas.List.Splits.{slice_split_at, slice_split_none}

-- ---- properties of all elements

-- a property of all elements of two lists holds of both joined
pub all_append : {X : Type 0} (P : X → Type 0) (xs ys : List X) → AllByRecursion P xs → AllByRecursion P ys
    → AllByRecursion P (xs ++ ys)
all_append P [] ys h k = k
all_append P (x ∷ xs) ys h k = (h.0, all_append P xs ys h.1 k)

-- a consequence of a property of all elements holds of all elements
pub all_weaker : {X : Type 0} {P Q : X → Type 0} → ((x : X) → P x → Q x) → (xs : List X) → AllByRecursion P xs
    → AllByRecursion Q xs
all_weaker f [] h = tt
all_weaker f (x ∷ xs) h = (f x h.0, all_weaker f xs h.1)

-- ---- bytes that occur in no word, or in no line

-- a byte below the visible ones does not occur in a word
pub seen_free : (byte : ℕ) → byte < 0x21 → (w : List ℕ) → AllByRecursion (λ b. (0x21 ≤ b) × (b ≤ 0x7E)) w
    → IsFree byte w
seen_free byte low = all_weaker (λ b h e. omega (arith, low, h.0, e))

-- a byte below the visible ones does not occur in any of some words
pub words_free : (byte : ℕ) → byte < 0x21 → (ws : List (List ℕ)) → AllByRecursion IsWord ws
    → AllByRecursion (IsFree byte) ws
words_free byte low = all_weaker (λ w h. seen_free byte low w h.1)

-- a byte that occurs in none of the words, and is not a space, does not occur in their line
pub line_free : (byte : ℕ) → SPACE ≢ byte → (ws : List (List ℕ)) → AllByRecursion (IsFree byte) ws
    → IsFree byte (line_of ws)
line_free byte other [] h = tt
line_free byte other (w ∷ []) h = h.0
line_free byte other (w ∷ v ∷ ws) h =
    all_append (λ b. b ≢ byte) w (SPACE ∷ line_of (v ∷ ws)) h.0 (other, line_free byte other (v ∷ ws) h.1)

-- ---- a line determines its words

-- the words of a line
abbrev pub words_in : List ℕ → List (List ℕ)
words_in line = slice_split (λ b. eqb b SPACE) line

-- no byte of a word without spaces is a space
clear : (w : List ℕ) → IsFree SPACE w → All (λ b. eqb b SPACE ≡ false) w
clear [] h i d lt = absurd (omega arith)
clear (b ∷ w) h zero d lt = grind (arith, nat_tests)
clear (b ∷ w) h (suc i) d lt = clear w h.1 i d (omega arith)

-- one or more words without spaces are the words of their line
pub words_again : (ws : List (List ℕ)) → AllByRecursion (IsFree SPACE) ws → 0 < length ws → words_in (line_of ws) ≡ ws
words_again [] h some = absurd (omega (arith, some))
words_again (w ∷ []) h some = slice_split_none _ w (clear w h.0)
words_again (w ∷ v ∷ ws) h some =
    slice_split_at _ w SPACE (line_of (v ∷ ws)) (clear w h.0) refl
    ∙ ap (λ (vs : List (List ℕ)). w ∷ vs) (words_again (v ∷ ws) h.1 (omega arith))

-- a line is that of only one list of words without spaces
pub same_free_words : (ws vs : List (List ℕ)) → AllByRecursion (IsFree SPACE) ws
    → AllByRecursion (IsFree SPACE) vs → 0 < length ws → 0 < length vs → line_of ws ≡ line_of vs → ws ≡ vs
same_free_words ws vs h k some more e = sym (words_again ws h some) ∙ ap words_in e ∙ words_again vs k more

-- the line of one or more words is not empty
some_line : (w : List ℕ) (ws : List (List ℕ)) → AllByRecursion IsWord (w ∷ ws) → line_of (w ∷ ws) ≢ []
some_line w ws h e =
    let all = sym (words_again (w ∷ ws) (words_free SPACE (omega arith) (w ∷ ws) h) (omega arith)) ∙ ap words_in e in
    let empty : w ≡ [] = cc all in
    omega (arith, h.0.0, ap (length {A = ℕ}) empty)

-- two lists of words with the same line are equal
pub same_words : (ws vs : List (List ℕ)) → AllByRecursion IsWord ws → AllByRecursion IsWord vs
    → line_of ws ≡ line_of vs → ws ≡ vs
same_words [] [] h k e = refl
same_words [] (v ∷ vs) h k e = absurd (some_line v vs k (sym e))
same_words (w ∷ ws) [] h k e = absurd (some_line w ws h e)
same_words (w ∷ ws) (v ∷ vs) h k e =
    same_free_words (w ∷ ws) (v ∷ vs) (words_free SPACE (omega arith) (w ∷ ws) h)
    (words_free SPACE (omega arith) (v ∷ vs) k) (omega arith) (omega arith) e
