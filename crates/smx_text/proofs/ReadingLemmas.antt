-- The position of a reader between two lines, and the results possible there, for any kind of text.
use Rattle.smx_text.proofs.Common.{◌≢◌, ◌+◌, ◌<◌, map, refl, sym, ap, subst, ◌∙◌, append_assoc, arith, inl, inr}
use Rattle.smx_text.proofs.Common.{IfErr, append-nil, map-append, length-append, nil_from_length, Version, V1}
use Rattle.smx_text.proofs.Common.{LINE_FEED, line_of, text_of, Cause, TextFault, Grammar, IsOneLine, header}
use Rattle.smx_text.proofs.Common.{line_text, beginning, IsBegun, IsNoLine, IsFault, Reads, ReadsAny, Refuses}
use Rattle.std.proofs.Common.{◌≡◌, ℕ, List, [], ◌∷◌, ◌++◌, length, Result, Ok, Err}
use Rattle.std.proofs.lemmas.List.Concat.{flat_map-append}
use Rattle.smx_text.specs.declared.text_fault.Cause.TheVariants as cause
use Rattle.smx_text.specs.Grammar.{full_text, Reaches}
use Rattle.smx_text.specs.Reading.{Continues, EndsText}

-- the text of two joined lists of lines is the text of the first followed by that of the second
pub texts_append : (ls ks : List (List (List ℕ))) → text_of (ls ++ ks) ≡ text_of ls ++ text_of ks
texts_append ls ks = flat_map-append (λ words. line_of words ++ LINE_FEED ∷ []) ls ks

-- bytes after a whole line are after its line feed
behind : (before text after : List ℕ) → (before ++ (text ++ LINE_FEED ∷ [])) ++ after
    ≡ before ++ (text ++ LINE_FEED ∷ after)
behind before text after = append_assoc before (text ++ LINE_FEED ∷ []) after
    ∙ ap (λ (xs : List ℕ). before ++ xs) (append_assoc text (LINE_FEED ∷ []) after)

module _ {V K : Type 0} (g : Grammar V K) where
  -- a beginning is the header, and then the lines
  pub beginning_is : (lines : List K) → beginning g lines ≡ header g ++ LINE_FEED ∷ text_of (map g.line_words lines)
  beginning_is lines = append_assoc (header g) (LINE_FEED ∷ []) (text_of (map g.line_words lines))

  -- a beginning with more lines is the beginning followed by these lines
  pub beginning_append : (lines more : List K)
      → beginning g (lines ++ more) ≡ beginning g lines ++ text_of (map g.line_words more)
  beginning_append lines more =
      ap (λ (ws : List (List (List ℕ))). text_of (g.header_words ∷ ws)) (map-append g.line_words lines more)
      ∙ texts_append (g.header_words ∷ map g.line_words lines) (map g.line_words more)

  -- a beginning with one more line is the beginning followed by that line and its line feed
  pub beginning_more : (lines : List K) (k : K)
      → beginning g (lines ++ k ∷ []) ≡ beginning g lines ++ (line_text g k ++ LINE_FEED ∷ [])
  beginning_more lines k = beginning_append lines (k ∷ [])
      ∙ ap (λ (xs : List ℕ). beginning g lines ++ xs) (append-nil (line_text g k ++ LINE_FEED ∷ []))

  -- a whole text is its beginning and the line `end`
  pub full_is : (v : V) → full_text g v ≡ beginning g (g.body v) ++ (line_text g g.end ++ LINE_FEED ∷ [])
  full_is v =
      texts_append (g.header_words ∷ map g.line_words (g.body v)) (g.line_words g.end ∷ [])
      ∙ ap (λ (xs : List ℕ). beginning g (g.body v) ++ xs) (append-nil (line_text g g.end ++ LINE_FEED ∷ []))

  -- the text of a value followed by bytes is its beginning, the last line and these bytes
  pub full_and : (v : V) (more : List ℕ) → full_text g v ++ more
      ≡ beginning g (g.body v) ++ (line_text g g.end ++ LINE_FEED ∷ more)
  full_and v more = ap (λ (xs : List ℕ). xs ++ more) (full_is v)
      ∙ behind (beginning g (g.body v)) (line_text g g.end) more

  -- a beginning with one more line, followed by bytes, is the beginning, that line and these bytes
  pub more_and : (lines : List K) (k : K) (after : List ℕ)
      → beginning g (lines ++ k ∷ []) ++ after ≡ beginning g lines ++ (line_text g k ++ LINE_FEED ∷ after)
  more_and lines k after = ap (λ (xs : List ℕ). xs ++ after) (beginning_more lines k)
      ∙ behind (beginning g lines) (line_text g k) after

  -- Between two lines: `lines` were read, and `rest` is still to be read.
  pub record IsBetween (bytes rest : List ℕ) (lines : List K) (number : ℕ) : Type 0 where
    pub begun : IsBegun g lines
    pub parts : bytes ≡ beginning g lines ++ rest
    pub numbered : number ≡ length lines + 2

  -- after the header no line was read, and line 2 comes next
  pub started : (bytes rest : List ℕ) (lines : List K) → IsBegun g [] → lines ≡ []
      → bytes ≡ header g ++ LINE_FEED ∷ rest → IsBetween bytes rest lines 2
  started bytes rest lines begun none e = rw none (record {
    begun = begun;
    parts = e ∙ sym (append_assoc (header g) (LINE_FEED ∷ []) rest)
        ∙ ap (λ (xs : List ℕ). xs ++ rest) (sym (append-nil (header g ++ LINE_FEED ∷ [])));
    numbered = refl;
  })

  -- between two lines, if the rest has no whole line, the text is cut at the next line
  pub cut_at : (bytes rest : List ℕ) (lines : List K) (number : ℕ) → IsBetween bytes rest lines number
      → IsOneLine rest → IsFault g bytes number cause.Cut
  cut_at bytes rest lines number at one =
      (beginning g lines, rest, inr (lines, at.begun, refl, at.numbered), one, at.parts)

  module _ (bytes rest : List ℕ) (lines : List K) (number : ℕ) (text after : List ℕ)
      (at : IsBetween bytes rest lines number)
      (next : IsOneLine text × (rest ≡ text ++ LINE_FEED ∷ after)) where
    all : bytes ≡ beginning g lines ++ (text ++ LINE_FEED ∷ after)
    all = at.parts ∙ ap (λ (xs : List ℕ). beginning g lines ++ xs) next.1

    reaches : Reaches g bytes lines text number
    reaches = record { begun = at.begun; next = (after, next.0, all); numbered = at.numbered }

    -- the cause for which the next line is refused is the fault of the text at its number
    pub refused : (why : Cause) → Refuses g lines text why → IsFault g bytes number why
    refused cause.Form h = (lines, text, reaches, h)
    refused cause.Many h = (lines, text, reaches, h)
    refused cause.NoMemory h = (lines, text, reaches, h)
    refused why h = absurd h

    -- if the next line is accepted, the reader is between it and the line after it
    pub one_more : (longer : List K) → Continues g lines text longer → IsBetween bytes after longer (number + 1)
    one_more longer (k, is, longer_is, begun) = record {
      begun = begun;
      parts = all ∙ ap (λ (t : List ℕ). beginning g lines ++ (t ++ LINE_FEED ∷ after)) is
          ∙ sym (more_and lines k after) ∙ ap (λ (ls : List K). beginning g ls ++ after) (sym longer_is);
      numbered = omega (arith, at.numbered, ap (length {A = K}) longer_is, length-append lines (k ∷ []));
    }

    -- at the last line
    module _ (end : text ≡ line_text g g.end) where
      whole : (v : V) → g.body v ≡ lines → bytes ≡ full_text g v ++ after
      whole v e =
          all ∙ ap (λ (t : List ℕ). beginning g lines ++ (t ++ LINE_FEED ∷ after)) end
          ∙ ap (λ (ls : List K). beginning g ls ++ (line_text g g.end ++ LINE_FEED ∷ after)) (sym e)
          ∙ sym (full_and v after)

      may_not : IsNoLine g lines (line_text g g.end) → IsFault g bytes number cause.Form
      may_not never = (lines, text, reaches, subst (IsNoLine g lines) (sym end) never)

      trails : (v : V) → g.IsAllowed v → g.body v ≡ lines → (xs : List ℕ) → after ≡ xs → 0 < length xs
          → IsFault g bytes (number + 1) cause.Trailing
      trails v allowed e [] is some = absurd (omega arith)
      trails v allowed e (b ∷ more) is some =
          let all = whole v e ∙ ap (λ (xs : List ℕ). full_text g v ++ xs) is in
          (v, b, more, allowed, all, omega (arith, at.numbered, ap (length {A = K}) e))

      -- the result at the last line is a result that a reader may return for the whole text
      pub read_to_end : (r : Result V TextFault) → EndsText g lines after number r → Reads g bytes r
      read_to_end (Ok v) (allowed, e, none) =
          let all = whole v e ∙ ap (λ (xs : List ℕ). full_text g v ++ xs) (nil_from_length after none)
          ∙ append-nil (full_text g v) in
          record { allowed = allowed; text = all }
      read_to_end (Err f) (inl (never, is)) =
          subst (λ (x : TextFault). IsFault g bytes x.line x.cause) (sym is) (may_not never)
      read_to_end (Err f) (inr (v, allowed, e, some, is)) =
          subst (λ (x : TextFault). IsFault g bytes x.line x.cause) (sym is)
          (trails v allowed e after refl some)

  -- no line after the header is refused with `Header`
  pub refused_behind : (lines : List K) (text : List ℕ) (why : Cause) → Refuses g lines text why → why ≢ cause.Header
  refused_behind lines text cause.Header h e = absurd h
  refused_behind lines text why h e = cc

  -- no result at the last line reports a wrong header
  pub ends_behind : (lines : List K) (after : List ℕ) (number : ℕ) (r : Result V TextFault)
      → EndsText g lines after number r → IfErr r (λ f. f.cause ≢ cause.Header)
  ends_behind lines after number (Ok v) h = tt
  ends_behind lines after number (Err f) (inl (never, is)) = λ e. cc
  ends_behind lines after number (Err f) (inr (v, allowed, same, some, is)) = λ e. cc

-- ---- texts of several versions

module _ {V K : Type 0} (g : Version → Grammar V K) (bytes : List ℕ) where
  -- a result in one version that does not report a wrong header is possible for a reader of all versions
  pub any_of : (version : Version) (r : Result V TextFault) → Reads (g version) bytes r
      → IfErr r (λ f. f.cause ≢ cause.Header) → ReadsAny g bytes r
  any_of version (Ok v) reads behind = (version, reads, tt)
  any_of version (Err f) reads behind = (version, reads, λ header. absurd (behind header))

  -- a fault that a text has in every version is possible for a reader of all versions
  pub any_of_each : (f : TextFault) → ((version : Version) → IsFault (g version) bytes f.line f.cause)
      → ReadsAny g bytes (Err f)
  any_of_each f each = (
    V1,
    each V1,
    λ header other.
        subst (λ (why : Cause). IsFault (g other) bytes f.line why) header (each other),
  )
