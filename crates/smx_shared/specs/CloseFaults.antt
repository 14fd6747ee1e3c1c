-- Why a shared system is not given back.
use Rattle.std.specs.Prelude.{◌≡◌, ℕ, true, List, codes}
use Rattle.smx_types.specs.declared.command.Entry.{Entry}
use Rattle.smx_shared.specs.Fronts.{IsFrontOf}
use Rattle.smx_shared.specs.Seats.{Known, IsBeginningOf}
use Rattle.smx_shared.specs.declared.shared_fault.CloseFault.{CloseFault}
use Rattle.smx_shared.specs.declared.shared_fault.CloseFault.TheVariants.{Held}
use Rattle.smx_shared.specs.declared.front.Front.{Front}

-- the front shows a turn that was never given back
pub record ShowsHeld (old : Known) (front : Front) : Type 0 where
  pub held : front.held ≡ true
  -- It is the front of a history that begins with the history that had been seen.
  pub history : List Entry
  pub seen : IsBeginningOf old.seen history
  pub numbers : IsFrontOf front old.drivers history

-- why a shared system is not given back to a caller who knew this: the front shows a turn that was never given back
abbrev pub IsHeld : Known → CloseFault → Type 0
IsHeld old (Held front) = ShowsHeld old front

-- the words in which the fault prints itself
abbrev pub close_fault_words : CloseFault → List ℕ
close_fault_words (Held front) = codes "turn held"
