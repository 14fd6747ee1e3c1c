-- Texts that were drawn piece by piece, and what they contain.
use Rattle.std.proofs.Common.{◌≡◌, ℕ, ◌+◌, ◌<◌, List, [], ◌∷◌, ◌++◌, length, get_or, take, append-nil, append_assoc}
use Rattle.std.proofs.Common.{sym, ap, ◌∙◌, subst}
use Rattle.std.proofs.lemmas.List.{take_more}
use Rattle.std.specs.List.{AllByRecursion, flat_map}
use Rattle.smx_draw.specs.Drawing.{Draws, HasPart}
use Rattle.smx_draw.specs.declared.svg.block.Area.{Area}

module _ {X : Type 0} (element : X → Area → List ℕ) where
  -- one more element is drawn after the others
  pub draws_more : (xs : List X) (x : X) (at : Area) (a b c : List ℕ) → Draws element xs a b
      → c ≡ b ++ element x at → Draws element (xs ++ x ∷ []) a c
  draws_more [] x at a b c h e = (at, e ∙ ap (λ (t : List ℕ). t ++ element x at) h)
  draws_more (y ∷ ys) x at a b c (place, rest) e = (place, draws_more ys x at (a ++ element y place) b c rest e)

  -- in a loop over the items, the next one is drawn
  pub draws_next : (xs : List X) (i : ℕ) (x : X) (at : Area) (a b c : List ℕ) → i < length xs → x ≡ get_or xs i x
      → Draws element (take i xs) a b → c ≡ b ++ element x at → Draws element (take (i + 1) xs) a c
  draws_next xs i x at a b c lt is h e =
      let more : take (i + 1) xs ≡ take i xs ++ x ∷ [] =
      take_more xs i x lt ∙ ap (λ (y : X). take i xs ++ y ∷ []) (sym is) in
      subst (λ (ys : List X). Draws element ys a c) (sym more) (draws_more (take i xs) x at a b c h e)

  -- elements are drawn after the earlier text
  pub draws_behind : (xs : List X) (a b : List ℕ) → Draws element xs a b → (more : List ℕ) × (b ≡ a ++ more)
  draws_behind [] a b h = ([], h ∙ sym (append-nil a))
  draws_behind (x ∷ xs) a b (at, rest) =
      let behind = draws_behind xs (a ++ element x at) b rest in
      (element x at ++ behind.0, behind.1 ∙ append_assoc a (element x at) behind.0)

  -- the text contains the element of each, at some place
  pub draws_each : (xs : List X) (a b : List ℕ) → Draws element xs a b
      → AllByRecursion (λ x. (at : Area) × HasPart b (element x at)) xs
  draws_each [] a b h = tt
  draws_each (x ∷ xs) a b (at, rest) =
      let behind = draws_behind xs (a ++ element x at) b rest in
      ((at, (a, behind.0, behind.1)), draws_each xs (a ++ element x at) b rest)

-- a text that goes on still contains its parts
pub still_there : (text part more : List ℕ) → HasPart text part → HasPart (text ++ more) part
still_there text part more (before, after, e) =
    (before, after ++ more, ap (λ (t : List ℕ). t ++ more) e ∙ append_assoc (before ++ part) after more)

-- a fact of each item that implies another one gives that one of each item
pub all_of : {X : Type 0} (P Q : X → Type 0) → ((x : X) → P x → Q x) → (xs : List X) → AllByRecursion P xs
    → AllByRecursion Q xs
all_of P Q f [] h = tt
all_of P Q f (x ∷ xs) (one, rest) = (f x one, all_of P Q f xs rest)

-- the text of all lines contains each line
pub each_line : {X : Type 0} (line : X → List ℕ) (xs : List X) (before after : List ℕ)
    → AllByRecursion (λ x. HasPart (before ++ (flat_map line xs ++ after)) (line x)) xs
each_line line [] before after = tt
each_line line (x ∷ xs) before after =
    let e : before ++ ((line x ++ flat_map line xs) ++ after) ≡ before ++ line x ++ (flat_map line xs ++ after) =
    simp append_assoc in (
      (before, flat_map line xs ++ after, e),
      subst (λ (t : List ℕ). AllByRecursion (λ y. HasPart t (line y)) xs) (sym e)
          (each_line line xs (before ++ line x) after),
    )

-- a text that goes on still contains each element
pub each_still_there : {X : Type 0} (element : X → Area → List ℕ) (xs : List X) (text more : List ℕ)
    → AllByRecursion (λ x. (at : Area) × HasPart text (element x at)) xs
    → AllByRecursion (λ x. (at : Area) × HasPart (text ++ more) (element x at)) xs
each_still_there element xs text more =
    all_of (λ x. (at : Area) × HasPart text (element x at)) (λ x. (at : Area) × HasPart (text ++ more) (element x at))
    (λ x h. (h.0, still_there text (element x h.0) more h.1)) xs

-- a text to which five others were appended
pub put_five : (old a b c d e one two three four five : List ℕ) → one ≡ old ++ a → two ≡ one ++ b → three ≡ two ++ c
    → four ≡ three ++ d → five ≡ four ++ e → five ≡ old ++ (a ++ (b ++ (c ++ (d ++ e))))
put_five old a b c d e one two three four five e1 e2 e3 e4 e5 = rw (e5, e4, e3, e2, e1) (simp append_assoc)

-- 0 for the empty text, 1 for the others
abbrev pub any : List ℕ → ℕ
any [] = 0
any (c ∷ text) = 1

-- the empty text contains no part, unless that is empty
pub nothing_in : (part : List ℕ) → any part ≡ 1 → HasPart [] part → ⊥
nothing_in [] some h = absurd (cc some)
nothing_in (c ∷ part) some ([], after, e) = absurd (cc e)
nothing_in (c ∷ part) some (b ∷ before, after, e) = absurd (cc e)
