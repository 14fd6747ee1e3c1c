-- Values that their words determine: a function gives each value back from its words. So no two values share their
-- words, and it is decided whether some words belong to a value: those of the one value that the function gives.
use Rattle.smx_words.proofs.Common.{◌≡◌, ◌≢◌, ℕ, ◌<◌, Bool, true, false, cond, List, [], ◌∷◌, length, get_or, drop}
use Rattle.smx_words.proofs.Common.{Option, Some, None, refl, sym, ap, ◌∙◌, arith, AllByRecursion, bytes_eq, IsReadAs}
use Rattle.smx_words.proofs.Common.{IsWord, SPACE, line_of}
use Rattle.std.proofs.Common.{subst, inl, inr}
use Rattle.std.specs.Prelude.{◌⊎◌}
use Rattle.std.proofs.lemmas.Bool.Decides.{not_from_Decides}
use Rattle.std.proofs.lemmas.Slice.Eq.{bytes_eq-Decides}
use Rattle.smx_words.proofs.LineLemmas.{same_words, words_again, words_free, words_in}

-- `guess` gives each value that fits back from its spelling. From other spellings it gives any value that fits.
pub record Determines {X S : Type 0} (Good : S → Type 0) (Fits : X → Type 0) (spelling : X → S) : Type 0 where
  pub guess : S → X
  pub fits : (s : S) → Fits (guess s)
  pub again : (x : X) → Fits x → guess (spelling x) ≡ x
  pub are_words : (x : X) → Fits x → Good (spelling x)

-- the spelling of each value is a word
abbrev pub HasWord : {X : Type 0} → (X → Type 0) → (X → List ℕ) → Type 0
HasWord {X} Fits word = Determines IsWord Fits word

-- the spelling of each value is a list of words
abbrev pub HasWords : {X : Type 0} → (X → Type 0) → (X → List (List ℕ)) → Type 0
HasWords {X} Fits words = Determines (AllByRecursion IsWord) Fits words

module _ {X S : Type 0} {Good : S → Type 0} {Fits : X → Type 0} {spelling : X → S}
    (d : Determines Good Fits spelling) where
  -- no two values that fit have the same spelling
  pub one : (x y : X) → Fits x → Fits y → spelling x ≡ spelling y → x ≡ y
  one x y h k e = sym (d.again x h) ∙ ap d.guess e ∙ d.again y k

  -- what does not spell the value that is guessed from it spells no value that fits
  pub none : (s : S) → s ≢ spelling (d.guess s) → (x : X) → Fits x → s ≢ spelling x
  none s other x h e = other (e ∙ ap spelling (sym (d.again x h) ∙ ap d.guess (sym e)))

-- what fails the comparison with the spelling of the value that is guessed from it spells no value that fits
pub refused : {X : Type 0} {Good : List ℕ → Type 0} {Fits : X → Type 0} {spelling : X → List ℕ}
    (d : Determines Good Fits spelling) (s : List ℕ) → bytes_eq s (spelling (d.guess s)) ≡ false
    → (x : X) → Fits x → s ≢ spelling x
refused {spelling = spelling} d s e = none d s (not_from_Decides _ (bytes_eq-Decides s (spelling (d.guess s))) e)

-- two words are equal or different
pub same_or_not : (w v : List ℕ) → (w ≡ v) ⊎ (w ≢ v)
same_or_not w v = by_test (bytes_eq w v) refl where
  by_test : (b : Bool) → bytes_eq w v ≡ b → (w ≡ v) ⊎ (w ≢ v)
  by_test true e = inl ((bytes_eq-Decides w v).0 e)
  by_test false e = inr (not_from_Decides _ (bytes_eq-Decides w v) e)

-- ---- one word

-- the first of these values with this spelling, by a test that compares spellings, or else the last value
abbrev pub first_of_these : {X S : Type 0} → (S → S → Bool) → (X → S) → List X → X → S → X
first_of_these same spelling [] x s = x
first_of_these same spelling (y ∷ ys) x s = cond (same s (spelling y)) y (first_of_these same spelling ys x s)

-- ---- several words in order

-- a value that one word determines, by it as the only word
abbrev pub last : {X : Type 0} {Fits : X → Type 0} {word : X → List ℕ} → HasWord Fits word
    → HasWords Fits (λ x. word x ∷ [])
last d = record {
  guess = λ ws. d.guess (get_or ws 0 []);
  fits = λ ws. d.fits (get_or ws 0 []);
  again = d.again;
  are_words = λ x h. (d.are_words x h, tt);
}

-- pairs with equal parts are equal
pub both : {X Y : Type 0} {a b : X} {c e : Y} → a ≡ b → c ≡ e → ◌≡◌ {A = X × Y} (a, c) (b, e)
both one other = cc (one, other)

-- a value that one word determines and one that the words after it determine, by all these words
abbrev pub first : {X Y : Type 0} {Fits : X → Type 0} {word : X → List ℕ} {FitsMore : Y → Type 0}
    {words : Y → List (List ℕ)} → HasWord Fits word → HasWords FitsMore words
    → HasWords (λ (p : X × Y). Fits p.0 × FitsMore p.1) (λ (p : X × Y). word p.0 ∷ words p.1)
first {X} {Y} {Fits} {word} {FitsMore} {words} d more = record {
  guess = λ ws. (d.guess (get_or ws 0 []), more.guess (drop 1 ws));
  fits = λ ws. (d.fits (get_or ws 0 []), more.fits (drop 1 ws));
  again = λ p h. both (d.again p.0 h.0) (more.again p.1 h.1);
  are_words = λ p h. (d.are_words p.0 h.0, more.are_words p.1 h.1);
}

-- a value that its words determine, by them after a fixed word
abbrev pub after : {X : Type 0} {Fits : X → Type 0} {words : X → List (List ℕ)} (word : List ℕ) → IsWord word
    → HasWords Fits words → HasWords Fits (λ x. word ∷ words x)
after word is d = record {
  guess = λ ws. d.guess (drop 1 ws);
  fits = λ ws. d.fits (drop 1 ws);
  again = d.again;
  are_words = λ x h. (is, d.are_words x h);
}

-- a value that corresponds to another value, by the words of that one
pub via : {X Y : Type 0} {Fits : X → Type 0} {words : X → List (List ℕ)} {FitsOther : Y → Type 0} (make : Y → X)
    → HasWords FitsOther (λ y. words (make y)) → (back : X → Y) → ((y : Y) → FitsOther y → Fits (make y))
    → ((x : X) → Fits x → FitsOther (back x)) → ((x : X) → make (back x) ≡ x) → HasWords Fits words
via {X} {Y} {Fits} {words} {FitsOther} make d back to from same = record {
  guess = λ ws. make (d.guess ws);
  fits = λ ws. to (d.guess ws) (d.fits ws);
  again = λ x h. ap make (ap d.guess (sym (was x)) ∙ d.again (back x) (from x h)) ∙ same x;
  are_words = λ x h. subst (AllByRecursion IsWord) (was x) (d.are_words (back x) (from x h));
} where
  was : (x : X) → words (make (back x)) ≡ words x
  was x = ap words (same x)

-- ---- lines

module _ {X : Type 0} {Fits : X → Type 0} {words_of : X → List (List ℕ)} (d : HasWords Fits words_of) where
  -- no two values with words of their own have the same line
  pub one_line : (x y : X) → Fits x → Fits y → line_of (words_of x) ≡ line_of (words_of y) → x ≡ y
  one_line x y h k e = one d x y h k (same_words (words_of x) (words_of y) (d.are_words x h) (d.are_words y k) e)

  -- each value by its line
  abbrev pub by_line : ((x : X) → 0 < length (words_of x))
      → Determines (λ line. Unit {0}) Fits (λ x. line_of (words_of x))
  by_line some = record {
    guess = λ line. d.guess (words_in line);
    fits = λ line. d.fits (words_in line);
    again = λ x h.
        ap d.guess (words_again (words_of x) (words_free SPACE (omega arith) (words_of x) (d.are_words x h)) (some x))
        ∙ d.again x h;
    are_words = λ x h. tt;
  }

  -- each line is that of a value with words of its own, or of no such value
  pub reading : ((x : X) → 0 < length (words_of x)) → (line : List ℕ) → (o : Option X) × IsReadAs Fits words_of line o
  reading some line = let x = d.guess (words_in line) in elim (same_or_not line (line_of (words_of x))) [
    | inl is ↦ (Some x, (d.fits (words_in line), is))
    | inr other ↦ (None, none (by_line some) line other)
  ]
