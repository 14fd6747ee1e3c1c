-- The replies that entries get when their commands are performed again. No public clause needs this.
use Rattle.std.specs.Prelude.{◌≡◌, ℕ, List, [], ◌∷◌}
use Rattle.smx_types.specs.declared.command.Entry.{Entry}
use Rattle.smx_types.specs.declared.driver.DriverSpec.{DriverSpec}
use Rattle.smx_model.specs.Commands.{step}
use Rattle.smx_model.specs.Configuration.{Configuration, empty}
use Rattle.smx_model.specs.Histories.{after}
use Rattle.smx_config.specs.Machine.{Machine}
use Rattle.smx_text.specs.GrowingTranscripts.{AreEntryLines}

-- the same call, with the reply that it gets in this configuration
abbrev pub answered : List DriverSpec → Configuration → Entry → Entry
answered drivers c e = record e { reply = (step drivers c e.process e.command).1 }

-- the same calls, each with the reply that it gets, starting with this configuration
abbrev pub answers_from : List DriverSpec → Configuration → List Entry → List Entry
answers_from drivers c [] = []
answers_from drivers c (e ∷ es) = answered drivers c e ∷ answers_from drivers (step drivers c e.process e.command).0 es

-- the same calls, each with the reply that it gets, starting with the empty configuration
abbrev pub answers : List DriverSpec → List Entry → List Entry
answers drivers es = answers_from drivers empty es

-- A replay up to these entries: its configuration is the one after them, and these are their lines, with the replies
-- that they get.
pub record HasCome (drivers : List DriverSpec) (asked : List Entry) (m : Machine) (lines : List ℕ) : Type 0 where
  pub same : m.drivers ≡ drivers
  pub now : m.configuration ≡ after drivers asked
  pub written : AreEntryLines (answers drivers asked) lines
