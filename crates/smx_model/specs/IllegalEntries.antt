-- The first illegal entry of a history: its reply is not the one that its command gets.
use Rattle.std.specs.Prelude.{◌≡◌, ◌≢◌, ℕ, ◌+◌, List, take, Some, slice_get}
use Rattle.smx_types.specs.declared.command.Entry.{Entry}
use Rattle.smx_types.specs.declared.driver.DriverSpec.{DriverSpec}
use Rattle.smx_model.specs.Commands.{step}
use Rattle.smx_model.specs.Histories.{IsLegal, after}

-- the first entry that is illegal has this number, counted from 1
pub record IsFirstIllegal (drivers : List DriverSpec) (entries : List Entry) (number : ℕ) : Type 0 where
  -- the number of entries before it
  pub before : ℕ
  pub counted : number ≡ before + 1
  -- the illegal entry
  pub entry : Entry
  pub here : slice_get entries before ≡ Some entry
  -- the entries before it are a legal history
  pub legal_before : IsLegal drivers (take before entries)
  -- after them its command gets a different reply
  pub other_reply : (step drivers (after drivers (take before entries)) entry.process entry.command).1 ≢ entry.reply
