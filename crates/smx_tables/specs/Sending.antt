-- Sending and taking a message at a stream that is known. No public clause needs this.
use Rattle.std.specs.Prelude.{ℕ, Bool, ◌&&◌, ◌||◌, not, ◌==◌, nat_lt, nat_le, List, length, Result}
use Rattle.std.specs.Option.{is_some}
use Rattle.smx_types.specs.declared.driver.DriverSpec.{DriverSpec}
use Rattle.smx_types.specs.declared.limits.TheConstants.{NUMBER_END}
use Rattle.smx_types.specs.declared.reply.Fault.{Fault}
use Rattle.smx_types.specs.declared.reply.Fault.TheVariants.{BadSize, Full}
use Rattle.smx_types.specs.declared.stream.Place.{Place}
use Rattle.smx_types.specs.declared.stream.Side.{Side}
use Rattle.smx_types.specs.declared.stream.Side.TheVariants as side
use Rattle.smx_types.specs.declared.stream.StreamId.{StreamId}
use Rattle.smx_model.specs.Commands.{read_outcome, receive_outcome, send_outcome}
use Rattle.smx_model.specs.Configuration.{Configuration}
use Rattle.smx_model.specs.DriverList.{max_of}
use Rattle.smx_model.specs.Hangups.{is_hung}
use Rattle.smx_model.specs.Outcomes.{◌>>=◌, refuse, Outcome}
use Rattle.smx_model.specs.Queues.{first_message, is_full}

-- a message with these bytes may be sent to the place; or the first refusal that applies
abbrev pub may_send : List DriverSpec → Configuration → Place → List ℕ → Result (Unit {0}) Fault
may_send drivers c p bytes = do
  size ← refuse BadSize ((length bytes == 0) || nat_lt (max_of drivers p.stream.driver) (length bytes))
  refuse Full (is_full c p || nat_le NUMBER_END c.next_serial)

-- sends a message to a side of the stream that the command names, or refuses it
abbrev pub sent_to : List DriverSpec → Configuration → Result StreamId Fault → Side → ℕ → List ℕ → Outcome
sent_to drivers c named on addr bytes = do
  s ← named
  send_outcome drivers c (record { stream = s; side = on }) addr bytes

-- delivers the first message on a side of the stream that the command names, or refuses
abbrev pub received_from : List DriverSpec → Configuration → Result StreamId Fault → Side → Outcome
received_from drivers c named on = do
  s ← named
  receive_outcome drivers c (record { stream = s; side = on })

-- reads the stream that the command names: its first message, or the end of file; or refuses
abbrev pub read_from : List DriverSpec → Configuration → Result StreamId Fault → Outcome
read_from drivers c named = do
  s ← named
  read_outcome drivers c s

-- the stream has hung up, and there is nothing to read
abbrev pub is_at_end : Configuration → StreamId → Bool
is_at_end c s = is_hung c.hungs s && not (is_some (first_message c.flow (record { stream = s; side = side.Read })))
