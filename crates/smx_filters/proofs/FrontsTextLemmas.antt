-- The lines of the fronts text, one after the other.
use Rattle.std.proofs.Common.{◌≡◌, ℕ, ◌+◌, List, [], ◌∷◌, ◌++◌, length, ap, sym, ◌∙◌, arith, append_assoc}
use Rattle.std.proofs.lemmas.List.{append-nil}
use Rattle.smx_shared.specs.declared.front.Front.{Front}
use Rattle.smx_filters.specs.FrontsText.{front_line, front_lines}

-- one more line comes after the others
lines_more : (n m : ℕ) (fronts : List Front) (front : Front) → m ≡ n + length fronts
    → front_lines n (fronts ++ front ∷ []) ≡ front_lines n fronts ++ front_line m front
lines_more n m [] front is =
    let here : n ≡ m = omega arith in append-nil (front_line n front) ∙ ap (λ (k : ℕ). front_line k front) here
lines_more n m (first ∷ fronts) front is =
    ap (λ (l : List ℕ). front_line n first ++ l) (lines_more (n + 1) m fronts front (omega arith))
    ∙ sym (append_assoc (front_line n first) (front_lines (n + 1) fronts) (front_line m front))

-- what was written, followed by one more line
pub line_behind : (header old new : List ℕ) (process : ℕ) (before after : List Front) (front : Front)
    → old ≡ header ++ front_lines 0 before → new ≡ old ++ front_line process front → process ≡ length before
    → after ≡ before ++ front ∷ [] → new ≡ header ++ front_lines 0 after
line_behind header old new process before after front was now number more =
    now ∙ ap (λ (l : List ℕ). l ++ front_line process front) was
    ∙ append_assoc header (front_lines 0 before) (front_line process front)
    ∙ ap (λ (l : List ℕ). header ++ l) (sym (lines_more 0 process before front (omega arith))
    ∙ ap (front_lines 0) (sym more))
