-- Some lines of a value, and the bytes after them, have one result, for any kind of text in which a line's text
-- determines the line.
use Rattle.smx_text.proofs.Common.{◌+◌, map, refl, sym, ap, subst, ◌∙◌, append_assoc, arith, inl, inr, AllByRecursion}
use Rattle.smx_text.proofs.Common.{◌⊎◌, length-append, AreWords, LINE_FEED, text_of, Cause, TextFault, Grammar}
use Rattle.smx_text.proofs.Common.{IsOneLine, header, line_text, beginning, IsBegun, IsNoLine, Refuses}
use Rattle.std.proofs.Common.{◌≡◌, ℕ, ◌≤◌, List, [], ◌∷◌, ◌++◌, length, Result, Ok, Err}
use Rattle.smx_words.proofs.LineLemmas.{same_words}
use Rattle.smx_text.specs.declared.text_fault.Cause.TheVariants as cause
use Rattle.smx_text.specs.Grammar.{GoesOn, MayFollow, IsOneTooMany, last_line}
use Rattle.smx_text.specs.Reading.{AnswersLine, AnswersText, RefusesLine}
use Rattle.smx_text.proofs.EachLemmas.{all_left, all_right}
use Rattle.smx_text.proofs.LineWordLemmas.{one_line_of}
use Rattle.smx_text.proofs.LineLemmas.{not_one, one_cut}

-- A kind of text in which a line's text determines the line, and whose last line differs from all lines before it.
pub record IsWellMade {V K : Type 0} (g : Grammar V K) : Type 0 where
  pub header_line : IsOneLine (header g)
  pub are_words : (k : K) → g.FitsLine k → AreWords (g.line_words k)
  pub words_apart : (k l : K) → g.FitsLine k → g.FitsLine l → g.line_words k ≡ g.line_words l → k ≡ l
  pub fits : (v : V) → g.IsAllowed v → AllByRecursion g.FitsLine (g.body v)
  pub fits_end : g.FitsLine g.end
  pub end_is_last : (v : V) (lines more : List K) → g.body v ≡ lines ++ g.end ∷ more → ⊥
  pub one_value : (v w : V) → g.IsAllowed v → g.IsAllowed w → g.body v ≡ g.body w → v ≡ w

module _ {V K : Type 0} (g : Grammar V K) where
  -- the bytes of these lines, each with its line feed
  abbrev pub texts : List K → List ℕ
  texts lines = text_of (map g.line_words lines)

  -- the bytes of some lines and of more bytes start with the first line and its line feed
  texts_cons : (k : K) (lines : List K) (rest : List ℕ)
      → texts (k ∷ lines) ++ rest ≡ line_text g k ++ LINE_FEED ∷ (texts lines ++ rest)
  texts_cons k lines rest = simp append_assoc

  -- a beginning followed by bytes is the header, the lines and these bytes
  pub beginning_and : (lines : List K) (rest : List ℕ)
      → beginning g lines ++ rest ≡ header g ++ LINE_FEED ∷ (texts lines ++ rest)
  beginning_and lines rest = simp append_assoc

  -- each of these lines can be spelled
  abbrev AreFit : List K → Type 0
  AreFit lines = AllByRecursion g.FitsLine lines

  -- two lists of lines start the same bytes: one list has more lines, or they are equal
  abbrev pub HasMore : List K → List ℕ → List K → Type 0
  HasMore lines rest longer = (k : K) × (more : List K) × (after : List ℕ) × (longer ≡ lines ++ k ∷ more)
      × (rest ≡ line_text g k ++ LINE_FEED ∷ after)

  -- the result that reports a fault at line `n` for this cause
  abbrev pub refused : ℕ → Cause → Result V TextFault
  refused n c = Err (record { line = n; cause = c })

  -- the result at the last line of a value, with these bytes after it
  abbrev pub ended : V → List ℕ → Result V TextFault
  ended v [] = Ok v
  ended v (b ∷ after) = refused (length (g.body v) + 3) cause.Trailing

  -- the results that a reader may return at the whole line `text` after these lines, before the bytes `after`
  abbrev pub Answers : List K → List ℕ → List ℕ → Result V TextFault → Type 0
  Answers lines text after r =
      (IsNoLine g lines text × (r ≡ refused (length lines + 2) cause.Form))
      ⊎ ((IsOneTooMany g lines text × (r ≡ refused (length lines + 2) cause.Many))
      ⊎ ((text ≡ line_text g g.end) × (v : V) × g.IsAllowed v × (g.body v ≡ lines) × (r ≡ ended v after)))

  -- the results that are possible if these bytes are left: they have no whole line, or the next line has a result
  abbrev pub Stops : List K → List ℕ → Result V TextFault → Type 0
  Stops lines rest r =
      (IsOneLine rest × (r ≡ refused (length lines + 2) cause.Cut))
      ⊎ ((text after : List ℕ) × IsOneLine text × (rest ≡ text ++ LINE_FEED ∷ after) × Answers lines text after r)

  -- the result is at a line after the header and a prefix of an allowed value's lines
  abbrev pub Behind : List ℕ → Result V TextFault → Type 0
  Behind bytes r =
      (lines : List K) × (rest : List ℕ) × IsBegun g lines
      × (bytes ≡ header g ++ LINE_FEED ∷ (texts lines ++ rest)) × Stops lines rest r

  -- if a value's lines are some lines and then others, the first of the others follows them in that value
  goes_on : (lines more : List K) (k : K) (v : V) → g.body v ≡ lines ++ k ∷ more → GoesOn g v lines k
  goes_on lines more k v e = (more ++ g.end ∷ [], rw e (append_assoc lines (k ∷ more) (g.end ∷ [])))

  -- the last line follows all lines of a value
  end_may : (v : V) (lines : List K) → g.body v ≡ lines → GoesOn g v lines g.end
  end_may v lines e = ([], ap (λ (ls : List K). ls ++ g.end ∷ []) e)

module _ {V K : Type 0} {g : Grammar V K} (made : IsWellMade g) where
  -- a line that fits contains no line feed
  pub one_line : (k : K) → g.FitsLine k → IsOneLine (line_text g k)
  one_line k fits = one_line_of (g.line_words k) (made.are_words k fits)

  -- two lines that fit and have the same text are equal
  pub tells_apart : (k l : K) → g.FitsLine k → g.FitsLine l → line_text g k ≡ line_text g l → k ≡ l
  tells_apart k l fits also same = made.words_apart k l fits also
      (same_words (g.line_words k) (g.line_words l) (made.are_words k fits).0 (made.are_words l also).0 same)

  -- the cause for which a line is refused is one for which its text is refused
  pub refuses : (lines : List K) (k : K) (text : List ℕ) → g.FitsLine k → text ≡ line_text g k → (why : Cause)
      → RefusesLine g lines k why → Refuses g lines text why
  refuses lines k text fits is cause.Form h = λ l also may same.
      h (subst (MayFollow g lines) (tells_apart l k also fits (sym same ∙ is)) may)
  refuses lines k text fits is cause.Many h = (k, is, fits, h.0, h.1)
  refuses lines k text fits is cause.NoMemory h = (k, is, h)
  refuses lines k text fits is why h = absurd h

  -- a result for a parsed line is a result for its text
  pub answers : {A : Type 0} (lines longer : List K) (k : K) (text : List ℕ) → g.FitsLine k × (text ≡ line_text g k)
      → (r : Result A Cause) → AnswersLine g lines k longer r → AnswersText g lines text longer r
  answers lines longer k text (fits, is) (Ok x) h = (k, is, h.0, h.1)
  answers lines longer k text (fits, is) (Err why) h = refuses lines k text fits is why h

  -- if two lists of lines start the same bytes, one has more lines, or the lists and the rests are equal
  pub compare : (ls ms : List K) (r s : List ℕ) → AreFit g ls → AreFit g ms → texts g ls ++ r ≡ texts g ms ++ s
      → ((ls ≡ ms) × (r ≡ s)) ⊎ (HasMore g ls r ms ⊎ HasMore g ms s ls)
  compare [] [] r s h k e = inl (refl, e)
  compare [] (m ∷ ms) r s h k e = inr (inl (m, ms, texts g ms ++ s, refl, e ∙ texts_cons g m ms s))
  compare (l ∷ ls) [] r s h k e = inr (inr (l, ls, texts g ls ++ r, refl, sym e ∙ texts_cons g l ls r))
  compare (l ∷ ls) (m ∷ ms) r s h k e =
      let t = one_cut (line_text g l) (line_text g m) (texts g ls ++ r) (texts g ms ++ s) (one_line l h.0)
      (one_line m k.0) (sym (texts_cons g l ls r) ∙ e ∙ texts_cons g m ms s) in
      let same : l ≡ m = tells_apart l m h.0 k.0 t.0 in
      elim (compare ls ms r s h.1 k.1 t.1) [
        | inl (all, rest) ↦ inl (cc (same, all), rest)
        | inr (inl (x, more, after, is, rest)) ↦ inr (inl (x, more, after, cc (same, is), rest))
        | inr (inr (x, more, after, is, rest)) ↦ inr (inr (x, more, after, cc (same, is), rest))
      ]

  -- after all lines of an allowed value, the text of the last line spells no line over the limit
  no_many : (v : V) (lines : List K) (text : List ℕ) → g.IsAllowed v → g.body v ≡ lines
      → text ≡ line_text g g.end → IsOneTooMany g lines text → ⊥
  no_many v lines text allowed e end (k, is, fits, may, full) =
      let same : g.end ≡ k = tells_apart g.end k made.fits_end fits (sym end ∙ is) in
      full v allowed (subst (GoesOn g v lines) same (end_may g v lines e))

  -- a whole line after these lines has at most one result
  one_answer : (lines : List K) (text after : List ℕ) (r s : Result V TextFault) → Answers g lines text after r
      → Answers g lines text after s → r ≡ s
  one_answer lines text after r s (inl (h, e)) (inl (k, f)) = e ∙ sym f
  one_answer lines text after r s (inl (h, e)) (inr (inl ((k, is, fits, may, full), f))) = absurd (h k fits may is)
  one_answer lines text after r s (inl (h, e)) (inr (inr (end, v, allowed, is, f))) =
      absurd (h g.end made.fits_end (v, end_may g v lines is) end)
  one_answer lines text after r s (inr (inl (h, e))) (inr (inl (k, f))) = e ∙ sym f
  one_answer lines text after r s (inr (inl (h, e))) (inr (inr (end, v, allowed, is, f))) =
      absurd (no_many v lines text allowed is end h)
  one_answer lines text after r s (inr (inr (end, v, allowed, is, e))) (inr (inr (_, w, also, too, f))) =
      e ∙ ap (λ (x : V). ended g x after) (made.one_value v w allowed also (is ∙ sym too)) ∙ sym f
  one_answer lines text after r s (inr (inl ((k, is, fits, may, full), e))) (inl (h, f)) = absurd (h k fits may is)
  one_answer lines text after r s (inr (inr (end, v, allowed, is, e))) (inl (h, f)) =
      absurd (h g.end made.fits_end (v, end_may g v lines is) end)
  one_answer lines text after r s (inr (inr (end, v, allowed, is, e))) (inr (inl (h, f))) =
      absurd (no_many v lines text allowed is end h)

  -- at a line that an allowed value has there, no result is possible
  no_stop : (lines more : List K) (k : K) (v : V) (text after : List ℕ) (r : Result V TextFault)
      → g.IsAllowed v → g.body v ≡ lines ++ k ∷ more → g.FitsLine k → text ≡ line_text g k
      → Answers g lines text after r → ⊥
  no_stop lines more k v text after r allowed e fits is (inl (h, _)) = h k fits (v, goes_on g lines more k v e) is
  no_stop lines more k v text after r allowed e fits is (inr (inl ((l, is', fits', _, full), _))) =
      let same : k ≡ l = tells_apart k l fits fits' (sym is ∙ is') in
      full v allowed (subst (GoesOn g v lines) same (goes_on g lines more k v e))
  no_stop lines more k v text after r allowed e fits is (inr (inr (end, _, _, _, _))) =
      let same : k ≡ g.end = tells_apart k g.end fits made.fits_end (sym is ∙ end) in
      made.end_is_last v lines more (e ∙ ap (λ (x : K). lines ++ x ∷ more) same)

  -- if these bytes are left, there is at most one result
  one_stop : (lines : List K) (rest : List ℕ) (r s : Result V TextFault) → Stops g lines rest r
      → Stops g lines rest s → r ≡ s
  one_stop lines rest r s (inl (_, e)) (inl (_, k)) = e ∙ sym k
  one_stop lines rest r s (inl (one, _)) (inr (text, after, _, e, _)) =
      absurd (not_one text after (subst IsOneLine e one))
  one_stop lines rest r s (inr (text, after, _, e, _)) (inl (one, _)) =
      absurd (not_one text after (subst IsOneLine e one))
  one_stop lines rest r s (inr (text, after, one, e, a)) (inr (text', after', one', e', b)) =
      let t = one_cut text' text after' after one' one (sym e' ∙ e) in
      let b' : Answers g lines text after s =
      subst (λ (x : List ℕ). Answers g lines x after s) t.0
      (subst (λ (x : List ℕ). Answers g lines text' x s) t.1 b) in
      one_answer lines text after r s a b'

  -- all lines of a prefix of an allowed value can be spelled
  pub begun_fits : (lines : List K) → IsBegun g lines → AreFit g lines
  begun_fits lines (v, more, allowed, e) = all_left g.FitsLine lines more (subst (AreFit g) e (made.fits v allowed))

  -- if the bytes left after some lines start with more lines of an allowed value, no result is possible there
  pub too_early : (lines longer : List K) (rest : List ℕ) (r : Result V TextFault) → IsBegun g longer
      → HasMore g lines rest longer → Stops g lines rest r → ⊥
  too_early lines longer rest r begun (k, more, after, is, e) (inl (one, _)) =
      not_one (line_text g k) after (subst IsOneLine e one)
  too_early lines longer rest r (v, others, allowed, all) (k, more, after, is, e) (inr (text, after', one, e', a)) =
      let whole : g.body v ≡ lines ++ k ∷ (more ++ others) = all ∙ ap (λ (ls : List K). ls ++ others) is
      ∙ append_assoc lines (k ∷ more) others in
      let fits = (all_right g.FitsLine lines (k ∷ (more ++ others)) (subst (AreFit g) whole (made.fits v allowed))).0 in
      let t = one_cut text (line_text g k) after' after one (one_line k fits) (sym e' ∙ e) in
      no_stop lines (more ++ others) k v text after' r allowed whole fits t.0 a

  -- bytes have at most one result after the header
  pub both_behind : (bytes : List ℕ) (r s : Result V TextFault) → Behind g bytes r → Behind g bytes s → r ≡ s
  both_behind bytes r s (ls, rest, begun, e, stops) (ms, rest', begun', e', stops') =
      let t = one_cut (header g) (header g) (texts g ls ++ rest) (texts g ms ++ rest') made.header_line
      made.header_line (sym e ∙ e') in
      elim (compare ls ms rest rest' (begun_fits ls begun) (begun_fits ms begun') t.1) [
        | inl (same, also) ↦ one_stop ls rest r s stops
            (subst (λ (x : List K). Stops g x rest s) (sym same)
            (subst (λ (x : List ℕ). Stops g ms x s) (sym also) stops'))
        | inr (inl more) ↦ absurd (too_early ls ms rest r begun' more stops)
        | inr (inr more) ↦ absurd (too_early ms ls rest' s begun more stops')
      ]

  -- if bytes are left after these lines, a result is at the next line, or at a later one
  at_stop : (lines : List K) (rest : List ℕ) (r : Result V TextFault) → Stops g lines rest r
      → length lines + 2 ≤ last_line g r
  at_stop lines rest r (inl (one, e)) = rw e (omega arith)
  at_stop lines rest r (inr (text, after, one, e, inl (h, is))) = rw is (omega arith)
  at_stop lines rest r (inr (text, after, one, e, inr (inl (h, is)))) = rw is (omega arith)
  at_stop lines rest r (inr (text, [], one, e, inr (inr (end, v, allowed, all, is)))) = rw (is, all) (omega arith)
  at_stop lines rest r (inr (text, b ∷ after, one, e, inr (inr (end, v, allowed, all, is)))) =
      rw (is, all) (omega arith)

  -- a result after the header is after every prefix of an allowed value's lines that the bytes start with
  pub line_behind : (bytes : List ℕ) (lines : List K) (rest : List ℕ) (r : Result V TextFault) → IsBegun g lines
      → bytes ≡ header g ++ LINE_FEED ∷ (texts g lines ++ rest) → Behind g bytes r → length lines + 2 ≤ last_line g r
  line_behind bytes ls rest r begun e (ms, rest', begun', e', stops) =
      let at = at_stop ms rest' r stops in
      let t = one_cut (header g) (header g) (texts g ls ++ rest) (texts g ms ++ rest')
      made.header_line made.header_line (sym e ∙ e') in
      elim (compare ls ms rest rest' (begun_fits ls begun) (begun_fits ms begun') t.1) [
        | inl (same, also) ↦ omega (arith, at, ap (length {A = K}) same)
        | inr (inl (k, more, after, is, _)) ↦ omega (arith, at, ap (length {A = K}) is, length-append ls (k ∷ more))
        | inr (inr more) ↦ absurd (too_early ms ls rest' r begun more stops)
      ]
