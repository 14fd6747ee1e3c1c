-- A text by its lines: where it ends, and where one of its lines is.
use Rattle.std.proofs.Common.{◌≡◌, ℕ, List, [], ◌∷◌, ◌++◌, map, sym, ap, ◌∙◌, append_assoc}
use Rattle.std.specs.List.{AllByRecursion}
use Rattle.std.proofs.lemmas.List.{append-nil, map-append}
use Rattle.smx_words.specs.Words.{LINE_FEED, line_of, lines_text, text_of}
use Rattle.smx_text.specs.Grammar.{Grammar, IsOneLine, full_text, line_text}
use Rattle.smx_text.proofs.EachLemmas.{all_map}
use Rattle.smx_text.proofs.ReadingLemmas.{texts_append}
use Rattle.smx_explain.proofs.LineLemmas.{whole_map}

module _ {V K : Type 0} (g : Grammar V K) where
  -- a text ends in a line feed
  pub text_ends : (v : V) → (front : List ℕ) × (full_text g v ≡ front ++ LINE_FEED ∷ [])
  text_ends v =
      let lines = g.header_words ∷ map g.line_words (g.body v) in (
        text_of lines ++ line_text g g.end,
        texts_append lines (g.line_words g.end ∷ [])
            ∙ ap (λ (last : List ℕ). text_of lines ++ last) (append-nil (line_text g g.end ++ LINE_FEED ∷ []))
            ∙ sym (append_assoc (text_of lines) (line_text g g.end) (LINE_FEED ∷ [])),
      )

  -- the header and the lines before one, each as bytes
  abbrev pub lines_before : List K → List (List ℕ)
  lines_before lines = map line_of (g.header_words ∷ map g.line_words lines)

  -- the text from some lines of a value on, with the last line
  abbrev rest_of : List K → List ℕ
  rest_of more = text_of (map g.line_words more ++ g.line_words g.end ∷ [])

  -- the text of a value is the header and some of its lines, then the text from the others on
  text_from : (v : V) (lines more : List K) → g.body v ≡ lines ++ more
      → full_text g v ≡ lines_text (lines_before lines) ++ rest_of more
  text_from v lines more is =
      let rest = map g.line_words more ++ g.line_words g.end ∷ [] in
      let before = g.header_words ∷ map g.line_words lines in
      let split : g.header_words ∷ map g.line_words (g.body v) ++ g.line_words g.end ∷ [] ≡ before ++ rest =
      ap (λ (ks : List K). g.header_words ∷ map g.line_words ks ++ g.line_words g.end ∷ []) is
      ∙ ap (λ (ws : List (List (List ℕ))). g.header_words ∷ ws ++ g.line_words g.end ∷ [])
      (map-append g.line_words lines more) ∙ append_assoc before (map g.line_words more) (g.line_words g.end ∷ []) in
      ap (λ (ws : List (List (List ℕ))). text_of ws) split ∙ texts_append before rest
      ∙ ap (λ (bytes : List ℕ). bytes ++ text_of rest) (whole_map line_of before)

  -- a text goes on after its header and some lines of its value
  pub text_behind : (v : V) (lines more : List K) → g.body v ≡ lines ++ more
      → (after : List ℕ) × (full_text g v ≡ lines_text (lines_before lines) ++ after)
  text_behind v lines more is = (rest_of more, text_from v lines more is)

  -- the text goes on with any line of the value after those before it
  pub text_at : (v : V) (lines : List K) (k : K) (more : List K) → g.body v ≡ lines ++ k ∷ more
      → (after : List ℕ) × (full_text g v ≡ lines_text (lines_before lines) ++ (line_text g k ++ LINE_FEED ∷ after))
  text_at v lines k more is = (
    rest_of more,
    text_from v lines (k ∷ more) is ∙ ap (λ (bytes : List ℕ). lines_text (lines_before lines) ++ bytes)
        (append_assoc (line_text g k) (LINE_FEED ∷ []) (rest_of more)),
  )

  -- the header and some lines are one line each, if each of these lines is
  pub are_lines : IsOneLine (line_of g.header_words) → (lines : List K)
      → AllByRecursion (λ k. IsOneLine (line_text g k)) lines → AllByRecursion IsOneLine (lines_before lines)
  are_lines header lines all = (
    header,
    all_map IsOneLine line_of (map g.line_words lines)
        (all_map (λ (ws : List (List ℕ)). IsOneLine (line_of ws)) g.line_words lines all),
  )
