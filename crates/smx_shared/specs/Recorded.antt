-- The drivers of a system, the limit of its history, and the history up to now.
use Rattle.std.specs.Prelude.{◌≡◌, ℕ, ◌≤◌, List, [], ◌∷◌, ◌++◌, length}
use Rattle.smx_types.specs.declared.command.Command.{Command}
use Rattle.smx_types.specs.declared.command.Entry.{Entry}
use Rattle.smx_types.specs.declared.driver.DriverSpec.{DriverSpec}
use Rattle.smx_types.specs.declared.limits.TheConstants.{MAX_COMMANDS}
use Rattle.smx_model.specs.Commands.{step}
use Rattle.smx_model.specs.DriverList.{IsDriverList}
use Rattle.smx_model.specs.Histories.{IsLegal, after}
use Rattle.smx_model.specs.LawfulHistories.{IsLawfulThroughout}
use Rattle.smx_config.specs.Machine.{Machine}

-- what a contract sees of a system
pub record Recorded : Type 0 where
  pub drivers : List DriverSpec
  pub limit : ℕ
  pub history : List Entry

-- what holds of every system, after any commands
pub record IsSoundSystem (s : Recorded) : Type 0 where
  -- Its drivers are valid.
  pub valid_drivers : IsDriverList s.drivers
  -- It has at most as many entries as its limit allows, and that is at most 100,000.
  pub within : length s.history ≤ s.limit
  pub limited : s.limit ≤ MAX_COMMANDS
  -- Each reply of its history is the one that its command gets.
  pub legal : IsLegal s.drivers s.history
  -- After each entry there is no cycle, no stream below two links, and no message lost or duplicated.
  pub lawful : IsLawfulThroughout s.drivers s.history

-- the system with the drivers of this configuration, this limit and this history
abbrev pub recorded_of : Machine → ℕ → List Entry → Recorded
recorded_of m limit history = record { drivers = m.drivers; limit = limit; history = history }

-- such a system is sound, and the configuration is the one after its history
pub record IsRecord (m : Machine) (limit : ℕ) (history : List Entry) : Type 0 where
  pub sound : IsSoundSystem (recorded_of m limit history)
  pub now : m.configuration ≡ after m.drivers history

-- the entry of a command: its process, the command, and the reply that it gets after the history
abbrev pub next_entry : Recorded → ℕ → Command → Entry
next_entry s process command = record {
  process = process;
  command = command;
  reply = (step s.drivers (after s.drivers s.history) process command).1;
}

-- the system with that one entry added at the end
abbrev pub with_entry : Recorded → ℕ → Command → Recorded
with_entry s process command = record {
  drivers = s.drivers;
  limit = s.limit;
  history = s.history ++ next_entry s process command ∷ [];
}
