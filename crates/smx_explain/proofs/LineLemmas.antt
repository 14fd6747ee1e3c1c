-- Texts that are made of lines have one first difference.
use Rattle.smx_explain.proofs.Common.{◌≡◌, ◌≢◌, ℕ, ◌+◌, ◌<◌, ◌≤◌, List, [], ◌∷◌, ◌++◌, length, map, refl, sym, ap}
use Rattle.smx_explain.proofs.Common.{subst, ◌∙◌, append_assoc, arith, inl, inr, AllByRecursion, LINE_FEED}
use Rattle.smx_explain.proofs.Common.{lines_text, IsOneLine, AreAlike, IsFirstDifference}
use Rattle.std.proofs.lemmas.List.{append_cancel_left}
use Rattle.std.specs.Prelude.{◌⊎◌}
use Rattle.std.specs.List.{flat_map}
use Rattle.smx_text.proofs.LineLemmas.{not_one, one_cut}
use Rattle.smx_explain.specs.Differences.{IsFirstLine}

-- ---- bytes

-- if two joined parts are empty, the second is empty
no_part : (xs ys : List ℕ) → xs ++ ys ≡ [] → ys ≡ []
no_part [] ys e = e
no_part (x ∷ xs) ys e = absurd (cc e)

-- bytes that end in a line feed don't end in a part of a line
pub no_rest : (xs ys rest : List ℕ) → xs ++ rest ≡ ys ++ LINE_FEED ∷ [] → IsOneLine rest → rest ≡ []
no_rest [] ys rest e one = absurd (not_one ys [] (subst IsOneLine e one))
no_rest (x ∷ xs) [] rest e one = let none : xs ++ rest ≡ [] = cc in no_part xs rest none
no_rest (x ∷ xs) (y ∷ ys) rest e one = let more : xs ++ rest ≡ ys ++ LINE_FEED ∷ [] = cc in no_rest xs ys rest more one

-- ---- lines

-- lines with bytes after them begin with the first line and its line feed
cons : (line : List ℕ) (lines : List (List ℕ)) (rest : List ℕ)
    → lines_text (line ∷ lines) ++ rest ≡ line ++ LINE_FEED ∷ (lines_text lines ++ rest)
cons line lines rest = simp append_assoc

-- the text of values, each followed by a line feed, is the text of the lines that are made of them
pub whole_map : {A : Type 0} (f : A → List ℕ) (xs : List A)
    → flat_map (λ x. f x ++ LINE_FEED ∷ []) xs ≡ lines_text (map f xs)
whole_map f [] = refl
whole_map f (x ∷ xs) = ap (λ (rest : List ℕ). (f x ++ LINE_FEED ∷ []) ++ rest) (whole_map f xs)

-- a line that both have first is not a difference
no_first : (l told has more rest a b : List ℕ) → IsOneLine l → IsOneLine told → IsOneLine has → told ≢ has
    → l ++ LINE_FEED ∷ a ≡ told ++ LINE_FEED ∷ more → l ++ LINE_FEED ∷ b ≡ has ++ LINE_FEED ∷ rest → ⊥
no_first l told has more rest a b one one_told one_has differ e k =
    differ (sym (one_cut l told a more one one_told e).0 ∙ (one_cut l has b rest one one_has k).0)

-- two ways to split both texts at lines that differ are one
pub one_front : (ls ms : List (List ℕ)) (told has told_too has_too more rest more_too rest_too : List ℕ)
    → AllByRecursion IsOneLine ls → AllByRecursion IsOneLine ms → IsOneLine told → IsOneLine has → IsOneLine told_too
    → IsOneLine has_too → told ≢ has → told_too ≢ has_too
    → lines_text ls ++ (told ++ LINE_FEED ∷ more) ≡ lines_text ms ++ (told_too ++ LINE_FEED ∷ more_too)
    → lines_text ls ++ (has ++ LINE_FEED ∷ rest) ≡ lines_text ms ++ (has_too ++ LINE_FEED ∷ rest_too)
    → (length ls ≡ length ms) × (told ≡ told_too) × (has ≡ has_too)
one_front [] [] told has told_too has_too more rest more_too rest_too all all_too a b c d differ differ_too e k =
    (refl, (one_cut told told_too more more_too a c e).0, (one_cut has has_too rest rest_too b d k).0)
one_front [] (m ∷ ms) told has told_too has_too more rest more_too rest_too all all_too a b c d differ differ_too e k =
    absurd (no_first m told has more rest _ _ all_too.0 a b differ
    (sym (e ∙ cons m ms (told_too ++ LINE_FEED ∷ more_too))) (sym (k ∙ cons m ms (has_too ++ LINE_FEED ∷ rest_too))))
one_front (l ∷ ls) [] told has told_too has_too more rest more_too rest_too all all_too a b c d differ differ_too e k =
    absurd (no_first l told_too has_too more_too rest_too _ _ all.0 c d differ_too
    (sym (cons l ls (told ++ LINE_FEED ∷ more)) ∙ e) (sym (cons l ls (has ++ LINE_FEED ∷ rest)) ∙ k))
one_front (l ∷ ls) (m ∷ ms) told has told_too has_too more rest more_too rest_too all all_too a b c d differ differ_too
    e k =
    let cut = one_cut l m _ _ all.0 all_too.0
    (sym (cons l ls (told ++ LINE_FEED ∷ more)) ∙ e ∙ cons m ms (told_too ++ LINE_FEED ∷ more_too)) in
    let cut_too = one_cut l m _ _ all.0 all_too.0
    (sym (cons l ls (has ++ LINE_FEED ∷ rest)) ∙ k ∙ cons m ms (has_too ++ LINE_FEED ∷ rest_too)) in
    let t = one_front ls ms told has told_too has_too more rest more_too rest_too all.1 all_too.1 a b c d differ
    differ_too cut.1 cut_too.1 in
    (omega (arith, t.0), t.1, t.2)

-- lines with which both begin come before the difference
pub past_front : (ps ls : List (List ℕ)) (told has more rest x y : List ℕ)
    → AllByRecursion IsOneLine ps → AllByRecursion IsOneLine ls → IsOneLine told → IsOneLine has → told ≢ has
    → lines_text ls ++ (told ++ LINE_FEED ∷ more) ≡ lines_text ps ++ x
    → lines_text ls ++ (has ++ LINE_FEED ∷ rest) ≡ lines_text ps ++ y → length ps ≤ length ls
past_front [] ls told has more rest x y all all_too a b differ e k = omega arith
past_front (p ∷ ps) [] told has more rest x y all all_too a b differ e k =
    absurd (no_first p told has more rest _ _ all.0 a b differ (sym (e ∙ cons p ps x)) (sym (k ∙ cons p ps y)))
past_front (p ∷ ps) (l ∷ ls) told has more rest x y all all_too a b differ e k =
    let cut = one_cut l p _ _ all_too.0 all.0 (sym (cons l ls (told ++ LINE_FEED ∷ more)) ∙ e ∙ cons p ps x) in
    let cut_too = one_cut l p _ _ all_too.0 all.0 (sym (cons l ls (has ++ LINE_FEED ∷ rest)) ∙ k ∙ cons p ps y) in
    let t = past_front ps ls told has more rest x y all.1 all_too.1 a b differ cut.1 cut_too.1 in
    omega (arith, t)

-- ---- differences

-- two texts have at most one first difference
pub one_difference : (one other : List ℕ) (n m : ℕ) (told has told_too has_too : List ℕ)
    → IsFirstDifference one other n told has
    → IsFirstDifference one other m told_too has_too → (n ≡ m) × (told ≡ told_too) × (has ≡ has_too)
one_difference one other n m told has told_too has_too h k =
    let t = one_front h.before k.before told has told_too has_too h.more h.rest k.more k.rest h.begin.are_lines
    k.begin.are_lines
    h.told_is_one h.has_is_one k.told_is_one k.has_is_one h.differ k.differ (sym h.begin.one_is ∙ k.begin.one_is)
    (sym h.begin.other_is ∙ k.begin.other_is) in
    (omega (arith, h.counted, k.counted, t.0), t.1, t.2)

-- a text does not differ from itself
pub no_difference : (one other : List ℕ) (n : ℕ) (told has : List ℕ) → IsFirstDifference one other n told has
    → one ≡ other → ⊥
no_difference one other n told has h same =
    let rests = append_cancel_left (lines_text h.before) _ _ (sym h.begin.one_is ∙ same ∙ h.begin.other_is) in
    h.differ (one_cut told has h.more h.rest h.told_is_one h.has_is_one rests).0

-- two texts with the same lines, after which one has no further whole line, have no line that differs
alike_before : (ps ls : List (List ℕ)) (told has more rest x y : List ℕ)
    → AllByRecursion IsOneLine ps → AllByRecursion IsOneLine ls → IsOneLine told → IsOneLine has → told ≢ has
    → lines_text ls ++ (told ++ LINE_FEED ∷ more) ≡ lines_text ps ++ x
    → lines_text ls ++ (has ++ LINE_FEED ∷ rest) ≡ lines_text ps ++ y → IsOneLine x ⊎ IsOneLine y → ⊥
alike_before [] [] told has more rest x y all all_too a b differ e k (inl one) =
    not_one told more (subst IsOneLine (sym e) one)
alike_before [] [] told has more rest x y all all_too a b differ e k (inr one) =
    not_one has rest (subst IsOneLine (sym k) one)
alike_before [] (l ∷ ls) told has more rest x y all all_too a b differ e k (inl one) =
    not_one l _ (subst IsOneLine (sym e ∙ cons l ls (told ++ LINE_FEED ∷ more)) one)
alike_before [] (l ∷ ls) told has more rest x y all all_too a b differ e k (inr one) =
    not_one l _ (subst IsOneLine (sym k ∙ cons l ls (has ++ LINE_FEED ∷ rest)) one)
alike_before (p ∷ ps) [] told has more rest x y all all_too a b differ e k ends =
    no_first p told has more rest _ _ all.0 a b differ (sym (e ∙ cons p ps x)) (sym (k ∙ cons p ps y))
alike_before (p ∷ ps) (l ∷ ls) told has more rest x y all all_too a b differ e k ends =
    let cut = one_cut l p _ _ all_too.0 all.0 (sym (cons l ls (told ++ LINE_FEED ∷ more)) ∙ e ∙ cons p ps x) in
    let cut_too = one_cut l p _ _ all_too.0 all.0 (sym (cons l ls (has ++ LINE_FEED ∷ rest)) ∙ k ∙ cons p ps y) in
    alike_before ps ls told has more rest x y all.1 all_too.1 a b differ cut.1 cut_too.1 ends

-- texts that are alike have no first difference
pub not_both : (one other : List ℕ) (n : ℕ) (told has : List ℕ) → IsFirstDifference one other n told has
    → AreAlike one other → ⊥
not_both one other n told has h alike =
    alike_before alike.lines h.before told has h.more h.rest alike.rest alike.behind alike.begin.are_lines
    h.begin.are_lines h.told_is_one h.has_is_one h.differ (sym h.begin.one_is ∙ alike.begin.one_is)
    (sym h.begin.other_is ∙ alike.begin.other_is) alike.ends

-- bytes have one first line
pub one_first_line : (bytes one other : List ℕ) → IsFirstLine one bytes → IsFirstLine other bytes → one ≡ other
one_first_line bytes one other (a, inl is) (b, inl is_too) = sym is ∙ is_too
one_first_line bytes one other (a, inl is) (b, inr (after, is_too)) =
    absurd (not_one other after (subst IsOneLine (sym is ∙ is_too) a))
one_first_line bytes one other (a, inr (after, is)) (b, inl is_too) =
    absurd (not_one one after (subst IsOneLine (sym is_too ∙ is) b))
one_first_line bytes one other (a, inr (after, is)) (b, inr (behind, is_too)) =
    (one_cut one other after behind a b (sym is ∙ is_too)).0

-- ---- a line by its number

-- however `text` is split before line `number`, `bytes` is the rest of it from line `at` on
abbrev pub IsFrom : List ℕ → ℕ → ℕ → List ℕ → Type 0
IsFrom text number at bytes =
    (before : List (List ℕ)) (rest : List ℕ) → AllByRecursion IsOneLine before → number ≡ length before + 1
    → text ≡ lines_text before ++ rest
    → (behind : List (List ℕ)) × AllByRecursion IsOneLine behind × (length behind + at ≡ number)
    × (bytes ≡ lines_text behind ++ rest)

-- after a whole line, the lines from the next number on follow
pub one_further : (text : List ℕ) (number at : ℕ) (bytes line after : List ℕ) → IsFrom text number at bytes
    → at < number → IsOneLine line → bytes ≡ line ++ LINE_FEED ∷ after → IsFrom text number (at + 1) after
one_further text number at bytes line after h less one is =
    λ before rest all count e. behind_one (h before rest all count e) where
      behind_one : {rest : List ℕ}
          → ((behind : List (List ℕ)) × AllByRecursion IsOneLine behind × (length behind + at ≡ number)
          × (bytes ≡ lines_text behind ++ rest))
          → (behind : List (List ℕ)) × AllByRecursion IsOneLine behind × (length behind + (at + 1) ≡ number)
          × (after ≡ lines_text behind ++ rest)
      behind_one ([], all, long, e) = absurd (omega (arith, long, less))
      behind_one {rest} (b ∷ behind, all, long, e) = (
        behind,
        all.1,
        omega (arith, long),
        (one_cut line b after (lines_text behind ++ rest) one all.0 (sym is ∙ e ∙ cons b behind rest)).1,
      )

-- if the rest has no line feed in it, it has no line of a later number
pub none_further : (text : List ℕ) (number at : ℕ) (bytes : List ℕ) → IsFrom text number at bytes → at < number
    → IsOneLine bytes
    → (before : List (List ℕ)) (rest : List ℕ) → AllByRecursion IsOneLine before → number ≡ length before + 1
    → text ≡ lines_text before ++ rest → ⊥
none_further text number at bytes h less one before rest all count e = no_lines (h before rest all count e) where
  no_lines : ((behind : List (List ℕ)) × AllByRecursion IsOneLine behind × (length behind + at ≡ number)
      × (bytes ≡ lines_text behind ++ rest)) → ⊥
  no_lines ([], all, long, e) = omega (arith, long, less)
  no_lines (b ∷ behind, all, long, e) =
      not_one b (lines_text behind ++ rest) (subst IsOneLine (e ∙ cons b behind rest) one)
