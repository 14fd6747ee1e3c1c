-- Tables that have ended: nothing that starts the same bytes is a longer table.
use Rattle.smx_live.proofs.Common.{◌≡◌, ◌≢◌, ℕ, ◌+◌, ◌<◌, ◌≤◌, Bool, true, false, List, [], ◌∷◌, ◌++◌, length, take}
use Rattle.smx_live.proofs.Common.{drop, refl, sym, ap, subst, ◌∙◌, append_assoc, arith, inl, inr, length-append}
use Rattle.smx_live.proofs.Common.{length-take-le, AllByRecursion, codes, LINE_FEED, lines_text, not_one, IsOneLine}
use Rattle.smx_live.proofs.Common.{MAX_INPUT, HasLine, IsTooLong, HasComeSoFar, IsOver, AreOfTable, IsEndlessTable}
use Rattle.smx_live.proofs.Common.{IsTable, IsUnfinished, begins_driver}
use Rattle.std.proofs.Common.{take-append-drop}
use Rattle.std.proofs.Math.Seq.{take-append_seam}
use Rattle.std.proofs.lemmas.Bool.Decides.{Decides-eqb}
use Rattle.std.proofs.lemmas.List.{append-nil, append_cancel_left}
use Rattle.std.proofs.lemmas.Slice.Eq.{starts_is}
use Rattle.std.specs.Prelude.{◌⊎◌}
use Rattle.smx_words.proofs.CutLemmas.{apart}
use Rattle.smx_text.proofs.EachLemmas.{all_append, all_right}
use Rattle.smx_live.specs.Tables.{IsCutDriver, IsOverAt}

-- ---- lines at the start of bytes

-- the text of lines starts with the first line and its line feed
cons : (l : List ℕ) (ls : List (List ℕ)) (rest : List ℕ)
    → lines_text (l ∷ ls) ++ rest ≡ l ++ LINE_FEED ∷ (lines_text ls ++ rest)
cons l ls rest = simp append_assoc

-- the text of lines is longer than that of the first of them and the next one's bytes
longer : (ls : List (List ℕ)) (u : List ℕ) (us : List (List ℕ))
    → length (lines_text ls) + length u < length (lines_text (ls ++ u ∷ us))
longer [] u us = omega (arith, length-append (u ++ LINE_FEED ∷ []) (lines_text us), length-append u (LINE_FEED ∷ []))
longer (l ∷ ls) u us =
    omega (
      arith,
      longer ls u us,
      length-append (l ++ LINE_FEED ∷ []) (lines_text ls),
      length-append (l ++ LINE_FEED ∷ []) (lines_text (ls ++ u ∷ us)),
    )

-- if bytes start with lines in two ways, one way has all lines of the other
further : (ls ms : List (List ℕ)) (tail other : List ℕ) → AllByRecursion IsOneLine ls → AllByRecursion IsOneLine ms
    → lines_text ls ++ tail ≡ lines_text ms ++ other
    → (us : List (List ℕ)) × (((ls ≡ ms ++ us) × (lines_text us ++ tail ≡ other))
    ⊎ ((ms ≡ ls ++ us) × (tail ≡ lines_text us ++ other)))
further ls [] tail other all all_too e = (ls, inl (refl, e))
further [] (m ∷ ms) tail other all all_too e = (m ∷ ms, inr (refl, e))
further (l ∷ ls) (m ∷ ms) tail other all all_too e =
    let cut = apart LINE_FEED l m (lines_text ls ++ tail) (lines_text ms ++ other) all.0 all_too.0
    (sym (cons l ls tail) ∙ e ∙ cons m ms other) in
    let (us, way) = further ls ms tail other all.1 all_too.1 cut.1 in
    let first : l ≡ m = cut.0 in (
      us,
      elim way [
        | inl (same, so) ↦ inl (cc (first, same), so)
        | inr (same, so) ↦ inr (cc (first, same), so)
      ],
    )

-- bytes without a line feed at the start of a line are a beginning of that line
within : (xs more l after : List ℕ) → IsOneLine xs → xs ++ more ≡ l ++ LINE_FEED ∷ after
    → (others : List ℕ) × (l ≡ xs ++ others)
within [] more l after one is = (l, refl)
within (x ∷ xs) more [] after one is = absurd (one.0 (cc is))
within (x ∷ xs) more (b ∷ l) after one is =
    let (others, same) = within xs more l after one.1 (cc is) in
    let first : b ≡ x = cc is in (others, cc (first, same))

-- the whole has no fewer bytes than its first part
no_fewer : (whole xs others : List ℕ) → whole ≡ xs ++ others → length xs ≤ length whole
no_fewer whole xs others is = omega (arith, ap (λ (t : List ℕ). length t) is, length-append xs others)

-- so bytes without a line feed at the start of a line are no longer than that line
no_longer : (xs more l after : List ℕ) → IsOneLine xs → xs ++ more ≡ l ++ LINE_FEED ∷ after → length xs ≤ length l
no_longer xs more l after one is =
    let (others, same) = within xs more l after one is in no_fewer l xs others same

-- what begins like a driver line still does with more bytes after it
begins_more : (l xs others : List ℕ) → l ≡ xs ++ others → begins_driver xs ≡ true → begins_driver l ≡ true
begins_more l xs others is begins =
    let driver : List ℕ = codes "driver" in
    let front : xs ≡ driver ++ drop 6 xs = (starts_is Decides-eqb xs driver (begins_driver xs) refl).0 begins in
    (starts_is Decides-eqb l driver (begins_driver l) refl).1 (drop 6 xs ++ others)
    (is ∙ ap (λ (t : List ℕ). t ++ others) front ∙ append_assoc driver (drop 6 xs) others)

-- ---- what follows the whole lines of a table that has ended

module _ (ended : Bool) (ls : List (List ℕ)) (cut rest : List ℕ) where
  -- a whole line is not the first one of the table, and not a driver line
  no_line_behind : IsOverAt ended ls cut rest → (u after : List ℕ) → IsOneLine u
      → cut ++ rest ≡ u ++ LINE_FEED ∷ after → (ls ≢ []) × (begins_driver u ≡ false)
  no_line_behind (inl (n, none, has, small, some, other)) u after one e =
      let same = apart LINE_FEED (take n rest) u (drop (n + 1) rest) after has.one one
      (sym has.parts ∙ (rw none at e)) in (some, rw same.0 at other)
  no_line_behind (inr (end, inl (driver, none))) u after one e =
      absurd (not_one u after (subst IsOneLine (rw (none, append-nil) at e) driver.1))
  no_line_behind (inr (end, inr (none, short, other))) u after one e =
      absurd (not_one u after (subst IsOneLine (rw none at e) short.0))

  -- a cut line is no longer than the table's own
  cut_within : IsOverAt ended ls cut rest → (own more : List ℕ) → (own ≡ []) ⊎ IsCutDriver ls own
      → cut ++ rest ≡ own ++ more → length own ≤ length cut
  cut_within over own more (inl none) e = omega (arith, ap (λ (t : List ℕ). length t) none)
  cut_within (inl (n, none, has, small, some, other)) own more (inr driver) e =
      let (others, same) = within own more (take n rest) (drop (n + 1) rest) driver.1
      (sym (rw none at e) ∙ has.parts) in
      absurd (cc (begins_more (take n rest) own others same driver.2, other))
  cut_within (inr (end, inl (is, none))) own more (inr driver) e =
      no_fewer cut own more (rw (none, append-nil) at e)
  cut_within (inr (end, inr (none, short, inl no_lines))) own more (inr driver) e = absurd (driver.0 no_lines)
  cut_within (inr (end, inr (none, short, inr other))) own more (inr driver) e =
      absurd (cc (begins_more rest own more (rw none at e) driver.2, other))

  -- one line is no longer than an input may be
  line_within : IsOverAt ended ls cut rest → length cut ≤ MAX_INPUT → (xs more : List ℕ) → IsOneLine xs
      → cut ++ rest ≡ xs ++ more → length xs ≤ MAX_INPUT
  line_within (inl (n, none, has, small, some, other)) fits xs more one e =
      omega (
        arith,
        no_longer xs more (take n rest) (drop (n + 1) rest) one (sym (rw none at e) ∙ has.parts),
        length-take-le n rest (omega (arith, has.within)),
      )
  line_within (inr (end, inl (is, none))) fits xs more one e =
      omega (arith, no_fewer cut xs more (rw (none, append-nil) at e))
  line_within (inr (end, inr (none, short, other))) fits xs more one e =
      omega (arith, short.1, no_fewer rest xs more (rw none at e))

  -- if there is no line feed, the input has ended
  end_within : IsOverAt ended ls cut rest → IsOneLine (cut ++ rest) → (ended ≡ true) × IsOneLine rest
  end_within (inl (n, none, has, small, some, other)) one =
      absurd (not_one (take n rest) (drop (n + 1) rest) (subst IsOneLine has.parts (rw none at one)))
  end_within (inr (end, behind)) one = (end, all_right (λ (b : ℕ). b ≢ LINE_FEED) cut rest one)

-- ---- tables that have ended

-- a line of a table after other lines is a driver line
is_driver_line : (ls us : List (List ℕ)) (u : List ℕ) → ls ≢ []
    → AllByRecursion (λ l. begins_driver l ≡ true) (drop 1 (ls ++ u ∷ us)) → begins_driver u ≡ true
is_driver_line [] us u some all = absurd (some refl)
is_driver_line (l ∷ ls) us u some all = (all_right (λ (x : List ℕ). begins_driver x ≡ true) ls (u ∷ us) all).0

module _ (ended : Bool) (table rest : List ℕ) (t : IsTable ended table rest) (ms : List (List ℕ)) (own more : List ℕ)
    (were : AreOfTable ms own) (parts : table ++ rest ≡ (lines_text ms ++ own) ++ more) where
  -- the bytes, by the whole lines of both tables
  all : lines_text t.lines ++ (t.cut ++ rest) ≡ lines_text ms ++ (own ++ more)
  all = sym (append_assoc (lines_text t.lines) t.cut rest) ∙ (rw t.text at parts)
      ∙ append_assoc (lines_text ms) own more

  -- one line after the lines of another table of the same bytes comes after all lines of a table that has ended, or
  -- lies within their text
  lines_apart : (xs after : List ℕ) → IsOneLine xs → own ++ more ≡ xs ++ after
      → ((t.lines ≡ ms) × (t.cut ++ rest ≡ xs ++ after))
      ⊎ (length (lines_text ms) + length xs < length (lines_text t.lines))
  lines_apart xs after one is = by_way (further t.lines ms (t.cut ++ rest) (xs ++ after) t.of_table.each were.each
      (rw is at all)) where
        by_way : (us : List (List ℕ)) × (((t.lines ≡ ms ++ us) × (lines_text us ++ (t.cut ++ rest) ≡ xs ++ after))
            ⊎ ((ms ≡ t.lines ++ us) × (t.cut ++ rest ≡ lines_text us ++ (xs ++ after))))
            → ((t.lines ≡ ms) × (t.cut ++ rest ≡ xs ++ after))
            ⊎ (length (lines_text ms) + length xs < length (lines_text t.lines))
        by_way ([], inl (same, so)) = inl (rw append-nil at same, so)
        by_way (u ∷ us, inl (same, so)) =
            let within = no_longer xs after u (lines_text us ++ (t.cut ++ rest)) one
            (sym so ∙ cons u us (t.cut ++ rest)) in inr (rw same (omega (arith, within, longer ms u us)))
        by_way ([], inr (same, so)) = inl (sym (rw append-nil at same), so)
        by_way (u ∷ us, inr (same, so)) =
            let next = (all_right IsOneLine t.lines (u ∷ us) (rw same at were.each)).0 in
            let (some, none) = no_line_behind ended t.lines t.cut rest t.over u (lines_text us ++ (xs ++ after)) next
            (so ∙ cons u us (xs ++ after)) in
            absurd (cc (none, is_driver_line t.lines us u some (rw same at were.drivers)))

  -- the last line of a table has no line feed in it
  own_one : IsOneLine own
  own_one = elim were.last [
    | inl none ↦ rw none tt
    | inr driver ↦ driver.1
  ]

  -- the table has the bytes of its whole lines and of its cut line
  sizes : length table ≡ length (lines_text t.lines) + length t.cut
  sizes = ap (λ (x : List ℕ). length x) t.text ∙ length-append (lines_text t.lines) t.cut

  -- another table of the same bytes is not longer
  no_table_is_longer : length (lines_text ms ++ own) ≤ length table
  no_table_is_longer = elim (lines_apart own more own_one refl) [
    | inl (is, so) ↦ omega (
      arith,
      length-append (lines_text ms) own,
      sizes,
      ap (λ (x : List (List ℕ)). length (lines_text x)) is,
      cut_within ended t.lines t.cut rest t.over own more (rw is were.last) so,
    )
    | inr within ↦ omega (arith, length-append (lines_text ms) own, sizes, within)
  ]

  -- one line after the other table's whole lines is within the limit, if the table is
  no_line_is_longer : length table ≤ MAX_INPUT → (xs after : List ℕ) → IsOneLine xs → own ++ more ≡ xs ++ after
      → length xs ≤ MAX_INPUT
  no_line_is_longer fits xs after one is = elim (lines_apart xs after one is) [
    | inl (same, so) ↦ line_within ended t.lines t.cut rest t.over (omega (arith, sizes, fits)) xs after one so
    | inr within ↦ omega (arith, fits, sizes, within)
  ]

  -- if no whole line follows the other table, the input has ended
  has_ended : IsOneLine more → (ended ≡ true) × IsOneLine rest
  has_ended one =
      let xs : List ℕ = own ++ more in
      let whole : IsOneLine xs = all_append (λ (b : ℕ). b ≢ LINE_FEED) own more own_one one in
      elim (lines_apart xs [] whole (sym (append-nil xs))) [
        | inl (same, so) ↦ end_within ended t.lines t.cut rest t.over (rw (so, append-nil) whole)
        | inr within ↦ absurd (omega (
          arith,
          within,
          ap (λ (x : List ℕ). length x) all,
          length-append (lines_text t.lines) (t.cut ++ rest),
          length-append (lines_text ms) xs,
        ))
      ]

-- what was read has only one table
pub table_once : (ended : Bool) (table other rest more : List ℕ) → IsTable ended table rest → IsTable ended other more
    → table ++ rest ≡ other ++ more → (table ≡ other) × (rest ≡ more)
table_once ended table other rest more t u e =
    let size : length table ≡ length other = omega (
      arith,
      rw (← u.text) at (no_table_is_longer ended table rest t u.lines u.cut more u.of_table (rw u.text at e)),
      rw (← t.text) at (no_table_is_longer ended other more u t.lines t.cut rest t.of_table (rw t.text at (sym e))),
    ) in
    let same : table ≡ other = sym (take-append_seam table rest) ∙ ap (take (length table)) e
    ∙ ap (λ (k : ℕ). take k (other ++ more)) size ∙ take-append_seam other more in
    (same, append_cancel_left other rest more (rw same at e))

module _ (ended : Bool) (table rest : List ℕ) (t : IsTable ended table rest) where
  -- a table that has ended is unfinished only if the input has ended and no whole line follows
  pub finished : IsUnfinished (table ++ rest) → (ended ≡ true) × IsOneLine rest
  finished (ms, own, more, parts, were, one) = has_ended ended table rest t ms own more were parts one

  -- a table that has ended and is within the limit is not too long with what follows it, nor is any line after it
  pub not_endless : length table ≤ MAX_INPUT → IsEndlessTable (table ++ rest) → ⊥
  not_endless fits (ms, own, more, parts, were, inl long) =
      omega (arith, no_table_is_longer ended table rest t ms own more were parts)
  not_endless fits (ms, own, more, parts, were, inr (n, many, enough, one)) =
      let first : List ℕ = own ++ take n more in
      let whole : IsOneLine first = all_append (λ (b : ℕ). b ≢ LINE_FEED) own (take n more)
      (own_one ended table rest t ms own more were parts) one in
      let joined : own ++ more ≡ first ++ drop n more =
      ap (λ (x : List ℕ). own ++ x) (sym (take-append-drop n more))
      ∙ sym (append_assoc own (take n more) (drop n more)) in
      omega (
        arith,
        length-append own (take n more),
        length-take-le n more enough,
        no_line_is_longer ended table rest t ms own more were parts fits first (drop n more) whole joined,
      )

-- ---- lines that are not too long

-- a whole line within the limit is not too long, whatever follows it
pub line_fits : (n : ℕ) (held : List ℕ) → HasLine n held → n ≤ MAX_INPUT → IsTooLong held → ⊥
line_fits n held has small (k, many, enough, one) =
    omega (
      arith,
      length-take-le k held enough,
      length-take-le n held (omega (arith, has.within)),
      no_longer (take k held) (drop k held) (take n held) (drop (n + 1) held) one
          (take-append-drop k held ∙ has.parts),
    )

-- the table of a session is not too long, nor is any line after it
pub no_session_is_endless : (explain : Bool) (read output : List ℕ) (ended : Bool)
    → HasComeSoFar explain read ended output → IsEndlessTable read → ⊥
no_session_is_endless explain read output ended (s, far, held, l) long =
    not_endless ended l.table _ l.over l.fits (rw l.read_is at long)

-- what is held when a session has ended is not too long
pub no_line_at_the_end : (explain : Bool) (read output : List ℕ) (ended : Bool) (o : IsOver explain read ended output)
    → IsTooLong o.held → ⊥
no_line_at_the_end explain read output ended o (k, many, enough, one) = elim o.at_end [
  | inl (more, is, none) ↦ omega (
    arith,
    length-take-le k o.held enough,
    no_longer (take k o.held) (drop k o.held) (codes "end") more one (take-append-drop k o.held ∙ is),
  )
  | inr (end, short, cut) ↦ omega (arith, short.1)
]
