-- Lawful histories: links form no cycle, no stream is below two links, and no message is lost or duplicated.
use Rattle.std.specs.Prelude.{◌≡◌, ◌≢◌, ◌⊎◌, ℕ, Bool, true, false, IsTrue, List, [], ◌∷◌, ◌++◌}
use Rattle.std.specs.List.{All, AllPairs, Contains, flat_map}
use Rattle.std.specs.List.Sorted.{IsPermutation}
use Rattle.smx_types.specs.declared.command.Command.{Command}
use Rattle.smx_types.specs.declared.command.Command.TheVariants as command
use Rattle.smx_types.specs.declared.command.Entry.{Entry}
use Rattle.smx_types.specs.declared.driver.DriverSpec.{DriverSpec}
use Rattle.smx_types.specs.declared.message.Message.{Message}
use Rattle.smx_types.specs.declared.reply.Reply.{Reply}
use Rattle.smx_types.specs.declared.reply.Reply.TheVariants as reply
use Rattle.smx_model.specs.Configuration.{Configuration}
use Rattle.smx_model.specs.Histories.{after}
use Rattle.smx_model.specs.Paths.{HasNoCycle, AreLowersApart}
use Rattle.smx_model.specs.Removal.{serials}

-- the serial of the message that was accepted, if one was
abbrev pub taken_by : Reply → List ℕ
taken_by (reply.Took serial) = serial ∷ []
taken_by other = []

-- the serial of the message that was delivered, if one was
abbrev pub delivered_by : Reply → List ℕ
delivered_by (reply.Got serial addr bytes) = serial ∷ []
delivered_by other = []

-- the serials of the messages that were dropped
abbrev pub dropped_by : Reply → List ℕ
dropped_by (reply.Done gone) = gone
dropped_by other = []

-- unlink, punlink, close, exit and flush may drop messages: they remove links, close streams or empty queues
abbrev pub may_drop : Command → Bool
may_drop (command.Close fd) = true
may_drop command.CloseAll = true
may_drop (command.Unlink fd w) = true
may_drop (command.Punlink fd w) = true
may_drop (command.Flush fd w) = true
may_drop other = false

-- only commands that may drop messages name dropped ones
abbrev pub AreDropsAllowed : List Entry → Type 0
AreDropsAllowed history = All (λ e. dropped_by e.reply ≢ [] → IsTrue (may_drop e.command)) history

-- the serials of the accepted messages: those of the `Took` replies, in order
abbrev pub taken_serials : List Entry → List ℕ
taken_serials history = flat_map (λ e. taken_by e.reply) history

-- the serials of the delivered messages: those of the `Got` replies, in order
abbrev pub delivered_serials : List Entry → List ℕ
delivered_serials history = flat_map (λ e. delivered_by e.reply) history

-- the serials of the dropped messages, in the `Done` replies
abbrev pub dropped_serials : List Entry → List ℕ
dropped_serials history = flat_map (λ e. dropped_by e.reply) history

-- the command writes or injects these bytes to this address
abbrev pub Sends : Command → ℕ → List ℕ → Type 0
Sends k addr bytes = ((fd : ℕ) × (k ≡ command.Write fd addr bytes))
    ⊎ ((name : List ℕ) × (minor : ℕ) × (k ≡ command.Inject name minor addr bytes))

-- an entry accepted the message: its command sent these bytes to this address, and its reply has the serial
abbrev pub IsTakenIn : List Entry → Message → Type 0
IsTakenIn history m =
    (took : Entry) × Contains history took × (took.reply ≡ reply.Took m.serial) × Sends took.command m.addr m.bytes

-- each message that was accepted was delivered, was dropped or is queued in this configuration, exactly one
-- of these, once
abbrev pub AreMessagesConserved : List Entry → Configuration → Type 0
AreMessagesConserved history c = IsPermutation (taken_serials history)
    (delivered_serials history ++ (dropped_serials history ++ serials c.flow))

-- a lawful final configuration of a history: no cycle, no stream below two links, and no message lost or duplicated
pub record IsLawfulEnd (history : List Entry) (c : Configuration) : Type 0 where
  -- its links form no cycle
  pub no_cycle : HasNoCycle c.links
  -- no stream is below two links
  pub lowers_apart : AreLowersApart c.links
  -- no two messages were accepted with the same serial
  pub taken_once : AllPairs (λ m n. m ≢ n) (taken_serials history)
  -- each message that was accepted was delivered, was dropped or is queued, exactly one of these, once
  pub conserved : AreMessagesConserved history c

-- the configuration after the history is a lawful end
abbrev pub IsLawful : List DriverSpec → List Entry → Type 0
IsLawful drivers history = IsLawfulEnd history (after drivers history)

-- the history is lawful after each entry: each of its prefixes is lawful
abbrev pub IsLawfulThroughout : List DriverSpec → List Entry → Type 0
IsLawfulThroughout drivers history = (xs ys : List Entry) → history ≡ xs ++ ys → IsLawful drivers xs
