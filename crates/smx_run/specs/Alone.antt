-- Commands that are performed in order: where they stop, and their effect on a system that is not shared.
use Rattle.std.specs.Prelude.{◌≡◌, ℕ, List, ◌∷◌, ◌++◌, map}
use Rattle.smx_types.specs.declared.command.Command.{Command}
use Rattle.smx_model.specs.Histories.{call_of}
use Rattle.smx_shared.specs.Recorded.{Recorded}
use Rattle.smx_shared.specs.Seats.{IsBeginningOf}
use Rattle.smx_run.specs.ProgramOrder.{calls_of}

-- some of these commands were performed, starting with the first; the next one was not, nor any after it
pub record StopsAmong {S : Type 0} (performed : S → List Command → S → Type 0) (a : S) (commands : List Command)
    (b : S) : Type 0 where
  pub done : List Command
  pub next : Command
  pub left : List Command
  pub all : done ++ next ∷ left ≡ commands
  pub came : performed a done b

-- the history has these further commands of the process; the drivers and the limit are the same
pub record PerformedAlone (process : ℕ) (a : Recorded) (commands : List Command) (b : Recorded) : Type 0 where
  pub drivers : b.drivers ≡ a.drivers
  pub limit : b.limit ≡ a.limit
  pub begins : IsBeginningOf a.history b.history
  pub calls : map call_of b.history ≡ map call_of a.history ++ calls_of process commands
