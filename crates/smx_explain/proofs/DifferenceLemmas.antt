-- Reading two texts line by line, as long as their lines are the same.
use Rattle.smx_explain.proofs.Common.{◌≡◌, ℕ, ◌+◌, List, [], ◌∷◌, ◌++◌, length, refl, sym, ap, ◌∙◌, append_assoc}
use Rattle.smx_explain.proofs.Common.{arith, AllByRecursion, LINE_FEED, lines_text, IsOneLine}
use Rattle.std.proofs.lemmas.List.{length-append}
use Rattle.smx_explain.specs.Differences.{Begin}

-- ---- lines

-- the text of lines with one more is the text of the others, then that line and its line feed
whole_more : (lines : List (List ℕ)) (line : List ℕ)
    → lines_text (lines ++ line ∷ []) ≡ lines_text lines ++ (line ++ LINE_FEED ∷ [])
whole_more [] line = append_nothing (line ++ LINE_FEED ∷ []) where
  append_nothing : (xs : List ℕ) → xs ++ [] ≡ xs
  append_nothing [] = refl
  append_nothing (x ∷ xs) = ap (λ (ys : List ℕ). x ∷ ys) (append_nothing xs)
whole_more (l ∷ lines) line = ap (λ (xs : List ℕ). (l ++ LINE_FEED ∷ []) ++ xs) (whole_more lines line)
    ∙ sym (append_assoc (l ++ LINE_FEED ∷ []) (lines_text lines) (line ++ LINE_FEED ∷ []))

-- bytes that begin with lines and then one more begin with the lines including that one
shifted : (lines : List (List ℕ)) (line more bytes : List ℕ) → bytes ≡ lines_text lines ++ (line ++ LINE_FEED ∷ more)
    → bytes ≡ lines_text (lines ++ line ∷ []) ++ more
shifted lines line more bytes is =
    rw (
      whole_more lines line,
      append_assoc (lines_text lines) (line ++ LINE_FEED ∷ []) more,
      append_assoc line (LINE_FEED ∷ []) more,
    ) is

-- if no line has a line feed in it, and one more has none, none of them all has
all_more : (lines : List (List ℕ)) (line : List ℕ) → AllByRecursion IsOneLine lines → IsOneLine line
    → AllByRecursion IsOneLine (lines ++ line ∷ [])
all_more [] line all one = (one, tt)
all_more (l ∷ lines) line all one = (all.0, all_more lines line all.1 one)

-- ---- reading

-- the lines of both texts before this number were read, and are the same
pub record HasCome (one other rest behind : List ℕ) (number : ℕ) : Type 0 where
  pub lines : List (List ℕ)
  pub begin : Begin one other lines rest behind
  pub counted : number ≡ length lines + 1

module _ (one other rest behind : List ℕ) (number : ℕ) (h : HasCome one other rest behind number) where
  -- if the next line of both texts is the same, one more line of both was read
  pub one_more : (told has more after : List ℕ) → IsOneLine told → rest ≡ told ++ LINE_FEED ∷ more
      → behind ≡ has ++ LINE_FEED ∷ after → told ≡ has → HasCome one other more after (number + 1)
  one_more told has more after is_one is also same = record {
    lines = h.lines ++ told ∷ [];
    begin = record {
      are_lines = all_more h.lines told h.begin.are_lines is_one;
      one_is = shifted h.lines told more one (rw (← is) h.begin.one_is);
      other_is = shifted h.lines told after other (rw (same, ← also) h.begin.other_is);
    };
    counted = omega (arith, h.counted, length-append h.lines (told ∷ []));
  }
