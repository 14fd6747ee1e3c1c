-- Bytes written piece by piece are one line.
use Rattle.std.proofs.Common.{◌≡◌, ℕ, ◌+◌, List, [], ◌∷◌, ◌++◌, take, map, sym, ap, ◌∙◌, append_assoc}
use Rattle.std.proofs.lemmas.Grind.{flat_map-append}
use Rattle.std.proofs.lemmas.List.{append-nil, map-append}
use Rattle.std.proofs.lemmas.List.Concat.{flat_map-cons}
use Rattle.std.specs.Fmt.{decimal}
use Rattle.std.specs.List.{AllByRecursion, flat_map}
use Rattle.smx_words.specs.Words.{LINE_FEED, line_of, text_of}
use Rattle.smx_words.proofs.LineLemmas.{all_append}

-- the line of a word and numbers is that word, followed by a space and the digits of each number
pub numbers_line : (w : List ℕ) (ns : List ℕ) → line_of (w ∷ map decimal ns) ≡ w ++ flat_map (λ n. 32 ∷ decimal n) ns
numbers_line w [] = sym (append-nil w)
numbers_line w (n ∷ ns) = ap (λ (l : List ℕ). w ++ 32 ∷ l) (numbers_line (decimal n) ns)

-- ---- the output of a loop, with one more value

-- the pieces of some values and one more are those of the values and then that of the one more
pieces : {X : Type 0} (f : X → List ℕ) (xs : List X) (x : X) → flat_map f (xs ++ x ∷ []) ≡ flat_map f xs ++ f x
pieces f xs x = flat_map-append f xs (x ∷ [])
    ∙ ap (λ (l : List ℕ). flat_map f xs ++ l) (flat_map-cons f x [] ∙ append-nil (f x))

-- the lines of some values and one more are those of the values and then that of the one more
pub lines_more : {X : Type 0} (words : X → List (List ℕ)) (xs : List X) (i : ℕ) (x : X) (new old start : List ℕ)
    → take (i + 1) xs ≡ take i xs ++ x ∷ [] → new ≡ old ++ line_of (words x) ++ LINE_FEED ∷ []
    → old ≡ start ++ text_of (map words (take i xs)) → new ≡ start ++ text_of (map words (take (i + 1) xs))
lines_more {X} words xs i x new old start one line before =
    let whole : map words (take (i + 1) xs) ≡ map words (take i xs) ++ words x ∷ [] =
    ap (λ (l : List X). map words l) one ∙ map-append words (take i xs) (x ∷ []) in
    let text : text_of (map words (take (i + 1) xs))
    ≡ text_of (map words (take i xs)) ++ line_of (words x) ++ LINE_FEED ∷ [] =
    ap text_of whole ∙ pieces (λ ws. line_of ws ++ LINE_FEED ∷ []) (map words (take i xs)) (words x)
    ∙ sym (append_assoc (text_of (map words (take i xs))) (line_of (words x)) (LINE_FEED ∷ [])) in
    line ∙ ap (λ (l : List ℕ). l ++ line_of (words x) ++ LINE_FEED ∷ []) before ∙ simp (text, append_assoc)

-- a property of the first elements of a list and of the next one holds of all of these
pub all_more : {X : Type 0} (P : X → Type 0) (xs : List X) (i : ℕ) (x : X) → take (i + 1) xs ≡ take i xs ++ x ∷ []
    → P x → AllByRecursion P (take i xs) → AllByRecursion P (take (i + 1) xs)
all_more P xs i x one holds before = rw one (all_append P (take i xs) (x ∷ []) before (holds, tt))
