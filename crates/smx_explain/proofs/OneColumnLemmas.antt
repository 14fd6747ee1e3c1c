-- A line becomes invalid in at most one column.
use Rattle.smx_explain.proofs.Common.{◌≡◌, ℕ, ◌+◌, List, [], ◌∷◌, ◌++◌, length, refl, sym, ap, subst, ◌∙◌}
use Rattle.smx_explain.proofs.Common.{append_assoc, ◌<◌, arith, inl, inr, AllByRecursion, Version, IsFree, SPACE}
use Rattle.smx_explain.proofs.Common.{IsLine, IsColumn, IsPartAt, IsWhole, LeadTo, first_choice, first_of, spaced}
use Rattle.smx_explain.proofs.Common.{LineKind, LineColumn, Wanted}
use Rattle.std.proofs.lemmas.List.{append-nil, length-append}
use Rattle.std.specs.Prelude.{◌⊎◌}
use Rattle.smx_words.proofs.CutLemmas.{apart}
use Rattle.smx_explain.specs.Columns.{AreParts, Begins, Stops}
use Rattle.smx_explain.proofs.ColumnLemmas.{spaced_both}
use Rattle.smx_explain.proofs.DeterminedLemmas.{one_lead}

-- parts, each followed by a space, are the first with its space, then the others with theirs
pub first_part : (part : List ℕ) (parts : List (List ℕ)) → spaced (part ∷ parts) ≡ part ++ SPACE ∷ spaced parts
first_part part parts = append_assoc part (SPACE ∷ []) (spaced parts)

-- a part with its space is not empty
pub some_bytes : (part rest : List ℕ) → part ++ SPACE ∷ rest ≡ [] → ⊥
some_bytes [] rest e = absurd (cc e)
some_bytes (b ∷ part) rest e = absurd (cc e)

-- bytes can be split at their spaces in only one way
one_cut : (xs ys : List (List ℕ)) → AllByRecursion (IsFree SPACE) xs → AllByRecursion (IsFree SPACE) ys
    → spaced xs ≡ spaced ys → xs ≡ ys
one_cut [] [] all all_too e = refl
one_cut [] (y ∷ ys) all all_too e = absurd (some_bytes y (spaced ys) (sym (e ∙ first_part y ys)))
one_cut (x ∷ xs) [] all all_too e = absurd (some_bytes x (spaced xs) (sym (first_part x xs) ∙ e))
one_cut (x ∷ xs) (y ∷ ys) all all_too e =
    let t = apart SPACE x y (spaced xs) (spaced ys) all.0 all_too.0 (sym (first_part x xs) ∙ e ∙ first_part y ys) in
    ap (λ (z : List ℕ). z ∷ xs) t.0 ∙ ap (λ (zs : List (List ℕ)). y ∷ zs) (one_cut xs ys all.1 all_too.1 t.1)

-- a line has only one list of parts
one_line : (line : List ℕ) (xs ys : List (List ℕ)) → AreParts line xs → AreParts line ys → xs ≡ ys
one_line line xs ys parts others = one_cut xs ys parts.0 others.0 (sym parts.1 ∙ others.1)

-- of two fronts of the same parts, the first goes on to the second with the part after it
record GoesTo (front behind other : List (List ℕ)) : Type 0 where
  word : List ℕ
  rest : List (List ℕ)
  more : List (List ℕ)
  is : behind ≡ word ∷ rest
  to : other ≡ (front ++ word ∷ []) ++ more

-- two fronts of the same parts are the same, or one of them goes on to the other
two_fronts : (xs ws ys bs : List (List ℕ)) → xs ++ ws ≡ ys ++ bs → (xs ≡ ys) ⊎ (GoesTo xs ws ys ⊎ GoesTo ys bs xs)
two_fronts [] ws [] bs e = inl refl
two_fronts [] ws (y ∷ ys) bs e = inr (inl (record { word = y; rest = ys ++ bs; more = ys; is = e; to = refl }))
two_fronts (x ∷ xs) ws [] bs e = inr (inr (record { word = x; rest = xs ++ ws; more = xs; is = sym e; to = refl }))
two_fronts (x ∷ xs) ws (y ∷ ys) bs e =
    let first : x ≡ y = cc in
    let rest : xs ++ ws ≡ ys ++ bs = cc in
    elim (two_fronts xs ws ys bs rest) [
      | inl same ↦ inl (ap (λ (z : List ℕ). z ∷ xs) first ∙ ap (λ (zs : List (List ℕ)). y ∷ zs) same)
      | inr (inl h) ↦ inr (inl (record {
        word = h.word;
        rest = h.rest;
        more = h.more;
        is = h.is;
        to = ap (λ (z : List ℕ). z ∷ ys) (sym first) ∙ ap (λ (zs : List (List ℕ)). x ∷ zs) h.to;
      }))
      | inr (inr h) ↦ inr (inr (record {
        word = h.word;
        rest = h.rest;
        more = h.more;
        is = h.is;
        to = ap (λ (z : List ℕ). z ∷ xs) first ∙ ap (λ (zs : List (List ℕ)). y ∷ zs) h.to;
      }))
    ]

-- parts after the same ones are the same, if all parts together are
cancelled : (front xs ys : List (List ℕ)) → front ++ xs ≡ front ++ ys → xs ≡ ys
cancelled [] xs ys e = e
cancelled (w ∷ front) xs ys e = cancelled front xs ys cc

-- a front that goes on to another is shorter
shorter : (front behind other : List (List ℕ)) → GoesTo front behind other
    → length (spaced front) < length (spaced other)
shorter front behind other h =
    omega (
      arith,
      ap (λ (ws : List (List ℕ)). length (spaced ws)) (h.to ∙ append_assoc front (h.word ∷ []) h.more),
      ap (length {A = ℕ}) (spaced_both front (h.word ∷ h.more)),
      length-append (spaced front) (spaced (h.word ∷ h.more)),
      ap (length {A = ℕ}) (first_part h.word h.more),
      length-append h.word (SPACE ∷ spaced h.more),
    )

-- only one part of a line begins in a column
pub one_part : (line : List ℕ) (column : ℕ) (v w : List ℕ) → IsPartAt line column v → IsPartAt line column w → v ≡ w
one_part line column v w (xs, ws, parts, here, is) (ys, bs, parts_too, here_too, is_too) =
    let same = one_line line (xs ++ ws) (ys ++ bs) parts parts_too in
    elim (two_fronts xs ws ys bs same) [
      | inl front ↦ is ∙ ap first_of (cancelled ys ws bs
          (ap (λ (front : List (List ℕ)). front ++ ws) (sym front) ∙ same)) ∙ sym is_too
      | inr (inl goes) ↦ absurd (omega (arith, shorter xs ws ys goes, here, here_too))
      | inr (inr goes) ↦ absurd (omega (arith, shorter ys bs xs goes, here, here_too))
    ]

module _ (kind : LineKind) (version : Version) where
  -- a line begins with the front of its words
  begins_with : (front more : List (List ℕ)) → Begins kind version (front ++ more) → Begins kind version front
  begins_with front more (rest, is) = (more ++ rest, subst (IsLine kind version) (append_assoc front more rest) is)

  -- if no line goes on, none goes on any further
  stops_all : (front behind other : List (List ℕ)) → Stops kind version front behind → Begins kind version other
      → GoesTo front behind other → ⊥
  stops_all front behind other stops begun h = subst (Stops kind version front) h.is stops
      (begins_with (front ++ h.word ∷ []) h.more (subst (Begins kind version) h.to begun))

  -- if no line goes on after a front, the line is not valid
  stops_whole : (front behind : List (List ℕ)) → Stops kind version front behind
      → IsLine kind version (front ++ behind) → ⊥
  stops_whole front [] stops is = stops (subst (IsLine kind version) (append-nil front) is)
  stops_whole front (word ∷ behind) stops is =
      stops (behind, subst (IsLine kind version) (sym (append_assoc front (word ∷ []) behind)) is)

  module _ (line : List ℕ) where
    -- a line that becomes invalid is not valid
    pub not_both : (at : LineColumn) → IsColumn kind version line at → IsWhole kind version line → ⊥
    not_both at h (parts, are, is) = stops_whole h.front h.behind h.stops
        (subst (IsLine kind version) (one_line line parts (h.front ++ h.behind) are h.parts) is)

    -- the parts before both columns are the same
    module _ (one other : LineColumn) (h : IsColumn kind version line one) (k : IsColumn kind version line other) where
      same_front : h.front ≡ k.front
      same_front = elim (two_fronts h.front h.behind k.front k.behind
          (one_line line (h.front ++ h.behind) (k.front ++ k.behind) h.parts k.parts)) [
            | inl same ↦ same
            | inr (inl goes) ↦ absurd (stops_all h.front h.behind k.front h.stops k.begun goes)
            | inr (inr goes) ↦ absurd (stops_all k.front k.behind h.front k.stops h.begun goes)
          ]

      -- both have the same column
      same_place : one.column ≡ other.column
      same_place = h.column ∙ ap (λ (front : List (List ℕ)). length (spaced front) + 1) same_front ∙ sym k.column

      -- the same is expected at both
      same_wanted : one.wanted ≡ other.wanted
      same_wanted = one_lead version [] (first_choice kind) k.front one.wanted other.wanted
          (subst (λ (front : List (List ℕ)). LeadTo version [] (first_choice kind) front one.wanted) same_front h.led)
          k.led

      -- both are the same
      pub same_column : one ≡ other
      same_column = ap (λ (column : ℕ). record { column = column; wanted = one.wanted }) same_place
          ∙ ap (λ (w : Wanted). record { column = other.column; wanted = w }) same_wanted
