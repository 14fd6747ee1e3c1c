-- A run on one thread: what it performs, and where it stops. There is room for all commands, so it stops only if it
-- is out of memory.
use Rattle.smx_run.proofs.Common.{◌≡◌, ◌≢◌, ℕ, ◌+◌, ◌<◌, List, [], ◌∷◌, ◌++◌, length, map, refl, sym, ap, ◌∙◌, arith}
use Rattle.smx_run.proofs.Common.{append_assoc, length-append, length-map, map-append, Command, Entry, call_of}
use Rattle.smx_run.proofs.Common.{calls_of, calls_from}
use Rattle.std.specs.List.{sum_by}
use Rattle.std.proofs.lemmas.List.Sums.{sum_by-cons}
use Rattle.smx_shared.specs.declared.shared_fault.ApplyFault.{ApplyFault}
use Rattle.smx_shared.specs.declared.shared_fault.ApplyFault.TheVariants as apply
use Rattle.smx_run.proofs.RunLemmas.{calls_apart}

-- the calls up to where one program stopped, and the next command, which is the first that is left
pub left_of : {asked was : List (ℕ × Command)} {p : ℕ} {programs behind later : List (List Command)}
    {commands : List Command} (before : List (List Command)) (done left : List Command) (next : Command)
    → before ++ behind ≡ programs → behind ≡ commands ∷ later → done ++ next ∷ left ≡ commands
    → p ≡ 0 + length before → was ≡ calls_from 0 before → asked ≡ was ++ calls_of p done
    → (rest : List (ℕ × Command)) × (asked ++ (p, next) ∷ rest ≡ calls_from 0 programs)
left_of {p = p} {programs} {later = later} {commands} before done left next all goes some number calls is =
    let rest : List (ℕ × Command) = calls_of p left ++ calls_from (p + 1) later in
    let here : calls_of p commands ≡ calls_of p done ++ ((p, next) ∷ calls_of p left) =
    ap (calls_of p) (sym some) ∙ map-append (λ (c : Command). (p, c)) done (next ∷ left) in
    let whole : calls_from 0 programs ≡ calls_from 0 before ++ (calls_of p commands ++ calls_from (p + 1) later) =
    ap (calls_from 0) (sym all ∙ ap (λ (ps : List (List Command)). before ++ ps) goes)
    ∙ calls_apart 0 before (commands ∷ later) ∙ rw number refl in
    let split : calls_of p commands ++ calls_from (p + 1) later ≡ calls_of p done ++ ((p, next) ∷ rest) =
    ap (λ (l : List (ℕ × Command)). l ++ calls_from (p + 1) later) here
    ∙ append_assoc (calls_of p done) ((p, next) ∷ calls_of p left) (calls_from (p + 1) later) in (
      rest,
      ap (λ (l : List (ℕ × Command)). l ++ (p, next) ∷ rest)
          (is ∙ ap (λ (l : List (ℕ × Command)). l ++ calls_of p done) calls)
          ∙ append_assoc (calls_from 0 before) (calls_of p done) ((p, next) ∷ rest)
          ∙ ap (λ (l : List (ℕ × Command)). calls_from 0 before ++ l) (sym split) ∙ sym whole,
    )

-- there are as many calls as commands
counted : (n : ℕ) (programs : List (List Command)) → length (calls_from n programs) ≡ sum_by length programs
counted n [] = refl
counted n (cs ∷ programs) = omega (
  arith,
  counted (n + 1) programs,
  length-append (calls_of n cs) (calls_from (n + 1) programs),
  length-map {B = ℕ × Command} cs (λ (c : Command). (n, c)),
  sum_by-cons length cs programs,
)

-- if a command is left, there are fewer entries than commands
pub room_left : (es : List Entry) (programs : List (List Command)) (next : ℕ × Command) (rest : List (ℕ × Command))
    → map call_of es ++ next ∷ rest ≡ calls_from 0 programs → length es < sum_by length programs
room_left es programs next rest is =
    let many : length (map call_of es ++ next ∷ rest)
    ≡ length (calls_from 0 programs) = ap (λ (l : List (ℕ × Command)). length l) is in
    omega (arith, many, counted 0 programs, length-append (map call_of es) (next ∷ rest), length-map es call_of)

-- a fault that is not a full history is out-of-memory
pub memory_left : (f : ApplyFault) → f ≢ apply.HistoryFull → f ≡ apply.NoMemory
memory_left apply.HistoryFull other = absurd (other refl)
memory_left apply.NoMemory other = refl
