-- Tables that grow by a line, and what is read after them.
use Rattle.smx_live.proofs.Common.{◌≡◌, ◌≢◌, ℕ, ◌+◌, ◌<◌, ◌≤◌, Bool, true, false, List, [], ◌∷◌, ◌++◌, length, take}
use Rattle.smx_live.proofs.Common.{refl, sym, ap, ◌∙◌, append_assoc, arith, inl, inr, length-append, LINE_FEED}
use Rattle.smx_live.proofs.Common.{lines_text, IsOneLine, MAX_INPUT, MainFault, Refused, Text, TooLong, ReadFailed}
use Rattle.smx_live.proofs.Common.{WriteFailed, FailsToRead, HasLine, IsShort, IsTooLong, AreOfTable, IsEndlessTable}
use Rattle.smx_live.proofs.Common.{IsTable, IsUnfinished, begins_driver}
use Rattle.std.proofs.lemmas.List.{append-nil, take-append-le}
use Rattle.std.specs.List.{flat_map}
use Rattle.std.specs.Global.{Global}
use Rattle.std.specs.Prelude.{◌⊎◌, Result, Vec, Ok, Err}
use Rattle.smx_text.proofs.EachLemmas.{all_push}
use Rattle.smx_live.specs.LiveStages.{TableComes, TakesCutLine}
use Rattle.smx_live.specs.Tables.{IsCutDriver, IsOverAt}
use Rattle.smx_live.specs.declared.inbox.Inbox.{Inbox}
use Rattle.smx_live.proofs.InboxLemmas.{fails_as, line_stays, with_line_feed}

-- `flat_map` over a list with one more item appends what that item gives
pub flat_more : {A B : Type 0} (f : A → List B) (xs : List A) (x : A) → flat_map f (xs ++ x ∷ []) ≡ flat_map f xs ++ f x
flat_more f [] x = append-nil (f x)
flat_more f (y ∷ xs) x = ap (λ l. f y ++ l) (flat_more f xs x) ∙ sym (append_assoc (f y) (flat_map f xs) (f x))

-- ---- one more line

-- the text of at least one line is not empty, since each line has a line feed
some_text : (line : List ℕ) (lines : List (List ℕ)) → length (lines_text (line ∷ lines)) ≢ 0
some_text line lines none =
    omega (
      arith,
      none,
      length-append (line ++ LINE_FEED ∷ []) (lines_text lines),
      length-append line (LINE_FEED ∷ []),
    )

-- the first line belongs to the table, and so does a later one that begins like a driver line
pub one_line_more : (lines : List (List ℕ)) (line : List ℕ) → AreOfTable lines [] → IsOneLine line
    → (length (lines_text lines) ≡ 0) ⊎ (begins_driver line ≡ true) → AreOfTable (lines ++ line ∷ []) []
one_line_more [] line were one why = record { each = (one, tt); drivers = tt; last = inl refl }
one_line_more (l ∷ ls) line were one (inl none) = absurd (some_text l ls none)
one_line_more (l ∷ ls) line were one (inr is) = record {
  each = all_push IsOneLine (l ∷ ls) line were.each one;
  drivers = all_push (λ (x : List ℕ). begins_driver x ≡ true) ls line were.drivers is;
  last = inl refl;
}

-- the text of lines, followed by the first line and its line feed, is the text of the lines with that line
pub text_more : (lines : List (List ℕ)) (n : ℕ) (held : List ℕ) → HasLine n held
    → lines_text lines ++ take (n + 1) held ≡ lines_text (lines ++ take n held ∷ [])
text_more lines n held line =
    ap (λ (t : List ℕ). lines_text lines ++ t) (with_line_feed n held line)
    ∙ sym (flat_more (λ (l : List ℕ). l ++ LINE_FEED ∷ []) lines (take n held))

-- ---- the end of a table

module _ (table : List ℕ) (lines : List (List ℕ)) (held : List ℕ) (text : table ≡ lines_text lines)
    (were : AreOfTable lines []) where
  -- if no line can be read after these lines, the table is too long, or unfinished
  pub fails_with : {all : List ℕ} (failures : ℕ) → all ≡ table ++ held → (e : MainFault)
      → FailsToRead (IsTooLong held) (IsOneLine held) failures e
      → FailsToRead (IsEndlessTable all) (IsUnfinished all) failures e
  fails_with {all} failures parts = fails_as failures (λ long. (lines, [], held, split, were, inr long))
      (λ one. (lines, [], held, split, were, one)) where
        split : all ≡ (lines_text lines ++ []) ++ held
        split = rw (append-nil, ← text) parts

  -- the table has ended if it is over at its whole lines
  over_so : (ended : Bool) → IsOverAt ended lines [] held → IsTable ended table held
  over_so ended over =
      record { lines = lines; cut = []; text = rw append-nil text; of_table = were; over = over }

  -- a table without bytes has no lines
  some_lines : table ≢ [] → lines ≢ []
  some_lines some none = some (text ∙ ap lines_text none)

  -- a table with a line has ended if the next line doesn't begin like a driver line
  pub over_at_a_line : (ended : Bool) (n : ℕ) → HasLine n held → n ≤ MAX_INPUT → length table ≢ 0
      → begins_driver (take n held) ≡ false → IsTable ended table held
  over_at_a_line ended n line small some other =
      over_so ended (inl (n, refl, line, small, some_lines (λ none. some (rw none refl)), other))

  module _ (ended : Bool) (end : ended ≡ true) (short : IsShort held) where
    -- a table has ended if the input ended without a next line, or within one that is not a driver line
    pub over_at_the_end : (table ≡ []) ⊎ (begins_driver held ≡ false) → IsTable ended table held
    over_at_the_end other = over_so ended (inr (end, inr (refl, short, by_lines lines text other))) where
      by_lines : (ls : List (List ℕ)) → table ≡ lines_text ls → (table ≡ []) ⊎ (begins_driver held ≡ false)
          → (ls ≡ []) ⊎ (begins_driver held ≡ false)
      by_lines [] is why = inl refl
      by_lines (l ∷ ls) is (inl none) = absurd (some_text l ls (ap (λ (t : List ℕ). length t) (sym is ∙ none)))
      by_lines (l ∷ ls) is (inr other) = inr other

    -- a cut driver line comes after a first line, and belongs to the table
    with_cut : table ≢ [] → begins_driver held ≡ true → AreOfTable lines held × IsCutDriver lines held
    with_cut some driver =
        let cut : IsCutDriver lines held = (some_lines some, short.0, driver) in
        (record { each = were.each; drivers = were.drivers; last = inr cut }, cut)

    -- a table has ended if the input ended within a driver line, which belongs to it
    pub over_within : table ≢ [] → begins_driver held ≡ true → IsTable ended (table ++ held) []
    over_within some driver =
        let (of_table, cut) = with_cut some driver in
        record {
          lines = lines;
          cut = held;
          text = rw text refl;
          of_table = of_table;
          over = inr (end, inl (cut, refl));
        }

    -- at the end of the input a table was read, with the held bytes or without, or these could not be taken into it
    pub has_table : (new : Inbox) {failures : ℕ} {all : List ℕ} → all ≡ table ++ held → length table ≤ MAX_INPUT
        → ended ≡ new.ended → failures ≡ 0 → (r : Result (Vec ℕ Global) MainFault)
        → TakesCutLine table held new.held.items r → TableComes ended failures new all r
    has_table new parts small still fine (Ok made) (inl (same, kept, other)) = record {
      parts = rw (same, kept) parts;
      over = rw (same, kept) (over_at_the_end other);
      end = still;
      fine = fine;
      fits = rw same small;
    }
    has_table new parts small still fine (Ok made) (inr (grown, none, some, driver, fits)) = record {
      parts = rw (grown, none, append-nil) parts;
      over = rw (grown, none) (over_within some driver);
      end = still;
      fine = fine;
      fits = rw grown fits;
    }
    has_table new parts small still fine (Err TooLong) (some, driver, long) =
        (fine, (lines, held, [], rw (append-nil, ← text) parts, (with_cut some driver).0, inl (rw (← text) long)))
    has_table new parts small still fine (Err (Refused f)) memory = (fine, memory)
    has_table new parts small still fine (Err ReadFailed) is = absurd is
    has_table new parts small still fine (Err (Text f)) is = absurd is
    has_table new parts small still fine (Err WriteFailed) is = absurd is

-- ---- more bytes

-- bytes that are a table stay one when more is read from an input that has not ended
pub still_a_table : (ended now : Bool) (table rest more : List ℕ) → IsTable ended table rest
    → (ended ≡ true → (more ≡ []) × (now ≡ true)) → IsTable now table (rest ++ more)
still_a_table ended now table rest more t stays =
    record { lines = t.lines; cut = t.cut; text = t.text; of_table = t.of_table; over = by_over t.over } where
      by_over : IsOverAt ended t.lines t.cut rest → IsOverAt now t.lines t.cut (rest ++ more)
      by_over (inl (n, none, line, small, some, other)) =
          let same : take n (rest ++ more) ≡ take n rest = take-append-le n rest more (omega (arith, line.within)) in
          inl (n, none, line_stays n rest more line, small, some, rw same other)
      by_over (inr (end, behind)) =
          let (none, still) = stays end in inr (still, rw (none, append-nil) behind)

-- ---- what is too long

-- a line that is too long has more bytes than the limit
pub long_line : (held : List ℕ) → IsTooLong held → MAX_INPUT < length held
long_line held (n, many, within, one) = omega (arith, many, within)

-- if a table is too long, or the line after it, more bytes were read than the limit
pub long_table : (read : List ℕ) → IsEndlessTable read → MAX_INPUT < length read
long_table read (lines, cut, rest, parts, were, long) =
    let text : List ℕ = lines_text lines ++ cut in
    let all : length read ≡ length text + length rest = ap (λ (t : List ℕ). length t) parts ∙ length-append text rest in
    elim long [
      | inl table ↦ omega (arith, all, table)
      | inr line ↦ omega (arith, all, long_line rest line)
    ]
