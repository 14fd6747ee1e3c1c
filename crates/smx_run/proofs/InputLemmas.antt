-- How reading goes on and ends.
use Rattle.smx_run.proofs.Common.{◌≡◌, ℕ, ◌+◌, ◌<◌, ◌≤◌, List, ◌++◌, length, take, None, sym, ap, ◌∙◌, arith, rules}
use Rattle.smx_run.proofs.Common.{append_assoc, length-append}
use Rattle.std.proofs.Common.{Bool, Option, Some, Err}
use Rattle.std.proofs.Math.Seq.{take-append-add}
use Rattle.std.proofs.lemmas.List.{take-append-le, take-take}
use Rattle.std.proofs.KnownBytes.{Consumes-trans}
use Rattle.std.specs.Io.KnownBytes.{Consumes, Keeps}
use Rattle.smx_run.specs.Input.{IsInput}
use Rattle.smx_run.specs.declared.input.TheConstants.{MAX_INPUT}
use Rattle.smx_run.specs.declared.main_fault.MainFault.TheVariants.{TooLong, ReadFailed}

-- a piece that was read after the first `k` bytes of a buffer, as the buffer then has it
pub with_piece : (before piece after tail : List ℕ) (k size n : ℕ) → length before ≡ k → k + n ≤ size → n ≤ length piece
    → take (k + n) (take size ((before ++ (piece ++ after)) ++ tail)) ≡ before ++ take n piece
with_piece before piece after tail k size n is fits within =
    take-take (k + n) size _ fits ∙ rw (append_assoc before (piece ++ after) tail, append_assoc piece after tail, ← is)
    (take-append-add before _ n ∙ ap (λ (bs : List ℕ). before ++ bs) (take-append-le n piece (after ++ tail) within))

-- bytes that don't change stay read
kept_on : (old mid new : Option (List ℕ)) (read : List ℕ) → Consumes old mid read → Keeps mid new
    → Consumes old new read
kept_on None mid new read p q = search rules
kept_on (Some xs) None new read p q = absurd p
kept_on (Some xs) (Some ys) None read p q = absurd q
kept_on (Some xs) (Some ys) (Some zs) read p q = p ∙ ap (λ (bs : List ℕ). read ++ bs) (sym q)

-- a read failed
pub failed_with : (old mid new : Option (List ℕ)) (ended : Bool) (failures : ℕ) (before : List ℕ)
    → Consumes old mid before → Keeps mid new → failures ≡ 1
    → length before ≤ MAX_INPUT → (read : List ℕ) × IsInput old new ended failures (Err ReadFailed) read
failed_with old mid new ended failures before p q failed short =
    let consumed = kept_on old mid new before p q in
    let few : length before ≤ MAX_INPUT + 1 = omega (arith, short) in
    (before, search (rules, consumed, few, short))

-- with this piece there are more bytes than the limit
pub too_long_with : (old mid new : Option (List ℕ)) (ended : Bool) (failures : ℕ) (before piece : List ℕ)
    → Consumes old mid before → Consumes mid new piece → failures ≡ 0
    → MAX_INPUT < length before + length piece → length before + length piece ≤ MAX_INPUT + 1
    → (read : List ℕ) × IsInput old new ended failures (Err TooLong) read
too_long_with old mid new ended failures before piece p q fine long fits =
    let consumed = Consumes-trans old mid new before piece p q in
    let more : MAX_INPUT < length (before ++ piece) = omega (arith, length-append before piece) in
    let few : length (before ++ piece) ≤ MAX_INPUT + 1 = omega (arith, fits, length-append before piece) in
    (before ++ piece, search (rules, consumed, few, more))
