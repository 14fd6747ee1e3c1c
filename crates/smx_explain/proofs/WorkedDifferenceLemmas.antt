-- The worked texts.
use Rattle.std.proofs.Common.{◌≡◌, ℕ, List, [], ◌∷◌, get_or, ap, refl, inl, inr, arith, rules}
use Rattle.std.specs.Prelude.{codes}
use Rattle.smx_explain.specs.Differences.{AreAlike, IsFirstDifference, IsFirstLine}

-- the second line is the first that differs
pub second : IsFirstDifference (codes "a\nb\nc\n") (codes "a\nx\nd\n") 2 (codes "b") (codes "x")
second = record {
  before = codes "a" ∷ [];
  counted = refl;
  told_is_one = search (rules, arith);
  has_is_one = search (rules, arith);
  more = codes "c\n";
  rest = codes "d\n";
  begin = record { are_lines = search (rules, arith); one_is = refl; other_is = refl };
  differ = λ e. let heads : 98 ≡ 120 = ap (λ (bs : List ℕ). get_or bs 0 0) e in omega (arith, heads);
}

-- an empty line differs from the end
pub ends_early : IsFirstDifference (codes "a\nend\n") (codes "a\n\nend\n") 2 (codes "end") []
ends_early = record {
  before = codes "a" ∷ [];
  counted = refl;
  told_is_one = search (rules, arith);
  has_is_one = tt;
  more = [];
  rest = codes "end\n";
  begin = record { are_lines = search (rules, arith); one_is = refl; other_is = refl };
  differ = λ e. absurd (cc e);
}

-- texts whose last lines are not whole, with no line that differs
pub not_whole : AreAlike (codes "a\nb") (codes "a\nc")
not_whole = record {
  lines = codes "a" ∷ [];
  rest = codes "b";
  behind = codes "c";
  begin = record { are_lines = search (rules, arith); one_is = refl; other_is = refl };
  ends = inl (search (rules, arith));
}

-- a line ends at its line feed
pub whole_line : IsFirstLine (codes "b") (codes "b\nc\n")
whole_line = (search (rules, arith), inr (codes "c\n", refl))

-- a line without a line feed ends where the text does
pub last_line : IsFirstLine (codes "b c") (codes "b c")
last_line = (search (rules, arith), inl refl)

pub ruleset worked_differences = (second, ends_early, not_whole, whole_line, last_line)
