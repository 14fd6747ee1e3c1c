-- A write after earlier writes.
use Rattle.std.proofs.Common.{ℕ, ◌+◌, ◌-◌, List, length, take, drop, Option, sym, subst}
use Rattle.std.proofs.Math.Seq.{take-add}
use Rattle.std.proofs.lemmas.List.{take_rest}
use Rattle.std.proofs.KnownBytes.{Appends-trans}
use Rattle.std.specs.Io.KnownBytes.{Appends}

-- after the first `i` bytes, the first `n` of the rest make `i + n`
pub written_on : (old mid new : Option (List ℕ)) (i n : ℕ) (bytes : List ℕ) → Appends old mid (take i bytes)
    → Appends mid new (take n (take (length bytes - i) (drop i bytes))) → Appends old new (take (i + n) bytes)
written_on old mid new i n bytes before more =
    let rest : Appends mid new (take n (drop i bytes)) = subst (λ (bs : List ℕ). Appends mid new (take n bs))
    (take_rest bytes i) more in
    subst (Appends old new) (sym (take-add i n bytes)) (Appends-trans old mid new _ _ before rest)
