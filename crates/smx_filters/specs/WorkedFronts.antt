-- Worked fronts: their text, typed in by hand.
use Rattle.std.specs.Prelude.{◌≡◌, [], ◌∷◌, true, false, refl, codes}
use Rattle.std.specs.Fmt.{digits}
use Rattle.smx_shared.specs.WorkedCalls.{front}
use Rattle.smx_filters.specs.FrontsText.{fronts_text}

-- no process
pub none_has_two_lines : fronts_text [] ≡ codes "fronts 1\nend\n"
none_has_two_lines = refl

-- two processes, the second of which saw the turn held
pub two_have_a_line_each : fronts_text (front 3 0 false ∷ front 10 2 true ∷ [])
    ≡ codes "fronts 1\nfront 0 3 0\nfront 1 10 2\nend\n"
unfolding digits
two_have_a_line_each = refl
