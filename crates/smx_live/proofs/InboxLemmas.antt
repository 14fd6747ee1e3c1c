-- Lines at the start of the held bytes, and how reads end.
use Rattle.smx_live.proofs.Common.{◌≡◌, ◌≢◌, ℕ, ◌+◌, ◌<◌, ◌≤◌, Bool, List, [], ◌∷◌, ◌++◌, length, take, drop, sym, ap}
use Rattle.smx_live.proofs.Common.{subst, ◌∙◌, append_assoc, arith, length-append, length-take-le, LINE_FEED}
use Rattle.smx_live.proofs.Common.{IsOneLine, MainFault, Refused, Text, TooLong, ReadFailed, WriteFailed, FailsToRead}
use Rattle.smx_live.proofs.Common.{HasLine, IsTooLong, MAX_INPUT, inl, inr, true, false}
use Rattle.std.proofs.Common.{take-append-drop}
use Rattle.std.proofs.Math.Seq.{drop-append-add, take-append-add, take-append_seam}
use Rattle.std.proofs.lemmas.List.{take_all}
use Rattle.std.specs.Prelude.{◌⊎◌, Option, Some, None, MatchOption, is_some, unwrap_or}
use Rattle.smx_text.proofs.EachLemmas.{all_append}
use Rattle.smx_live.specs.Inboxes.{IsFound, IsShort}

-- ---- lines

-- a line of `n` bytes and its line feed are a whole line, whatever follows them
has_line : (n : ℕ) (bytes line rest : List ℕ) → IsOneLine line → length line ≡ n → bytes ≡ line ++ LINE_FEED ∷ rest
    → HasLine n bytes
has_line n bytes line rest one size is = record {
  within = omega (arith, ap (λ (bs : List ℕ). length bs) is, length-append line (LINE_FEED ∷ rest));
  one = rw front one;
  parts = rw (front, back) is;
} where
  front : take n bytes ≡ line
  front = rw (is, ← size) (take-append_seam line (LINE_FEED ∷ rest))

  back : drop (n + 1) bytes ≡ rest
  back = rw (is, ← size) (drop-append-add line (LINE_FEED ∷ rest) 1)

-- a line in the rest ends the first line of all the bytes
pub found_behind : (held : List ℕ) (seen n : ℕ) → seen ≤ length held → IsOneLine (take seen held)
    → HasLine n (drop seen held) → HasLine (seen + n) held
found_behind held seen n within none line =
    let front : List ℕ = take seen held in
    let part : List ℕ = take n (drop seen held) in
    has_line (seen + n) held (front ++ part) (drop (n + 1) (drop seen held))
    (all_append (λ (b : ℕ). b ≢ LINE_FEED) front part none line.one)
    (omega (
      arith,
      length-append front part,
      length-take-le seen held within,
      length-take-le n (drop seen held) (omega (arith, line.within)),
    ))
    (sym (take-append-drop seen held) ∙ ap (λ (r : List ℕ). front ++ r) line.parts
    ∙ sym (append_assoc front part (LINE_FEED ∷ drop (n + 1) (drop seen held))))

-- bytes have no line feed if neither their first part nor the rest has one
pub none_behind : (held : List ℕ) (seen : ℕ) → IsOneLine (take seen held) → IsOneLine (drop seen held) → IsOneLine held
none_behind held seen a b =
    subst IsOneLine (take-append-drop seen held)
    (all_append (λ (x : ℕ). x ≢ LINE_FEED) (take seen held) (drop seen held) a b)

-- the first line stays the first when more is read
pub line_stays : (n : ℕ) (held more : List ℕ) → HasLine n held → HasLine n (held ++ more)
line_stays n held more line =
    has_line n (held ++ more) (take n held) (drop (n + 1) held ++ more) line.one
    (length-take-le n held (omega (arith, line.within)))
    (ap (λ (bs : List ℕ). bs ++ more) line.parts ∙ append_assoc (take n held) (LINE_FEED ∷ drop (n + 1) held) more)

-- the first line and the byte after it are the line and its line feed
pub with_line_feed : (n : ℕ) (held : List ℕ) → HasLine n held → take (n + 1) held ≡ take n held ++ LINE_FEED ∷ []
with_line_feed n held line =
    let size : length (take n held) ≡ n = length-take-le n held (omega (arith, line.within)) in
    ap (take (n + 1)) line.parts
    ∙ ap (λ (k : ℕ). take (k + 1) (take n held ++ LINE_FEED ∷ drop (n + 1) held)) (sym size)
    ∙ take-append-add (take n held) (LINE_FEED ∷ drop (n + 1) held) 1

-- what was held without a line feed before a read is the first part of what is held after it
pub none_before : (held piece longer : List ℕ) (k : ℕ) → k ≡ length held → longer ≡ held ++ piece → IsOneLine held
    → (k ≤ length longer) × IsOneLine (take k longer)
none_before held piece longer k size is one = (
  omega (arith, ap (λ (bs : List ℕ). length bs) is, length-append held piece),
  rw (is, size, take-append_seam) one,
)

-- ---- how reads end

-- reads that fail for one reason fail for each reason that it implies
pub fails_as : {Long More Unfinished Still : Type 0} (failures : ℕ) → (Long → More) → (Unfinished → Still)
    → (e : MainFault) → FailsToRead Long Unfinished failures e → FailsToRead More Still failures e
fails_as failures long unfinished TooLong why = (why.0, long why.1)
fails_as failures long unfinished ReadFailed why = (why.0, unfinished why.1)
fails_as failures long unfinished (Refused f) why = why
fails_as failures long unfinished (Text f) why = why
fails_as failures long unfinished WriteFailed why = why

-- a first line of more bytes than the limit is too long, whole or not
pub too_long : (held : List ℕ) (line : Option ℕ) (len : ℕ) → len ≡ length held
    → MatchOption line (IsOneLine held) (λ n. HasLine n held) → MAX_INPUT < unwrap_or line len → IsTooLong held
too_long held None len is one many = (
  length held,
  omega (arith, is, many),
  omega arith,
  subst IsOneLine (sym (take_all (length held) held (omega arith))) one,
)
too_long held (Some n) len is line many = (n, many, omega (arith, line.within), line.one)

-- any other is accepted, if it is whole or no more bytes come
pub found_line : (ended : Bool) (held : List ℕ) (line : Option ℕ) (len : ℕ) → len ≡ length held
    → MatchOption line (IsOneLine held) (λ n. HasLine n held) → unwrap_or line len ≤ MAX_INPUT
    → (is_some line ≡ true) ⊎ (ended ≡ true) → IsFound ended held line
found_line ended held None len is one few (inl some) = absurd (cc some)
found_line ended held None len is one few (inr end) = (end, (one, omega (arith, is, few)))
found_line ended held (Some n) len is line few why = (line, few)

-- bytes in which no whole line was found have none
pub none_found : (held : List ℕ) (line : Option ℕ) (len : ℕ) → len ≡ length held
    → MatchOption line (IsOneLine held) (λ n. HasLine n held) → unwrap_or line len ≤ MAX_INPUT
    → is_some line ≡ false → IsShort held
none_found held None len is one few none = (one, omega (arith, is, few))
none_found held (Some n) len is line few none = absurd (cc none)

-- ---- where bytes move

-- a read that moves no line from the held bytes to the table keeps all bytes in order
pub unmoved : (start read piece table held longer : List ℕ) → start ++ read ≡ table ++ held → longer ≡ held ++ piece
    → start ++ (read ++ piece) ≡ table ++ longer
unmoved start read piece table held longer was is =
    rw (is, ← append_assoc table held piece, ← was) (sym (append_assoc start read piece))

-- so does one after which a line is moved
pub moved : (start read piece table held longer : List ℕ) (k : ℕ) → start ++ read ≡ table ++ held
    → longer ≡ held ++ piece → start ++ (read ++ piece) ≡ (table ++ take k longer) ++ drop k longer
moved start read piece table held longer k was is =
    rw (append_assoc, take-append-drop) (unmoved start read piece table held longer was is)
