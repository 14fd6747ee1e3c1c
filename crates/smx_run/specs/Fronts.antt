-- The fronts of a run: the numbers of entries and links that were seen after each program had ended.
use Rattle.std.specs.Prelude.{◌≡◌, ℕ, ◌+◌, List, [], ◌∷◌, ◌++◌}
use Rattle.smx_types.specs.declared.command.Command.{Command}
use Rattle.smx_types.specs.declared.command.Entry.{Entry}
use Rattle.smx_types.specs.declared.driver.DriverSpec.{DriverSpec}
use Rattle.smx_model.specs.Histories.{commands_of}
use Rattle.smx_shared.specs.Fronts.{IsFrontOf}
use Rattle.smx_shared.specs.declared.front.Front.{Front}

-- a front that was seen after the program of a process had ended
pub record IsFrontAfter (drivers : List DriverSpec) (history : List Entry) (process : ℕ) (program : List Command)
    (front : Front) : Type 0 where
  -- It is that of a beginning of the history,
  pub before : List Entry
  pub begins : (more : List Entry) × (before ++ more ≡ history)
  pub numbers : IsFrontOf front drivers before
  -- which holds all commands of the program.
  pub holds : commands_of process before ≡ program

-- one front for each program, in order, from process `n` on
abbrev pub AreFrontsFrom : List DriverSpec → List Entry → ℕ → List (List Command) → List Front → Type 0
AreFrontsFrom drivers history n [] [] = Unit {0}
AreFrontsFrom drivers history n (program ∷ programs) (front ∷ fronts) =
    IsFrontAfter drivers history n program front × AreFrontsFrom drivers history (n + 1) programs fronts
AreFrontsFrom drivers history n programs fronts = ⊥
