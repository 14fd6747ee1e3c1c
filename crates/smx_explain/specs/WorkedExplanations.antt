-- Worked explanations, typed in by hand.
use Rattle.std.specs.Prelude.{◌≡◌, [], codes, refl}
use Rattle.std.specs.Fmt.{digits}
use Rattle.smx_explain.specs.Explanations.{difference_text}

-- an entry with a different reply
pub of_an_entry : difference_text 4 (codes "1 clone ip = fd 0 2") (codes "1 clone ip = fd 0 1")
    ≡ codes "line 4: 1 clone ip = fd 0 2\nreplay: 1 clone ip = fd 0 1\n"
unfolding digits
of_an_entry = refl

-- a line with a large number, whose replay is empty
pub of_no_bytes : difference_text 100067 (codes "end") [] ≡ codes "line 100067: end\nreplay: \n"
unfolding digits
of_no_bytes = refl
