-- The places that a command may wake, as known before it is performed. No public clause needs this.
use Rattle.std.specs.Prelude.{ℕ, Bool, true, false, if◌then◌else◌, List, [], ◌∷◌, Result, Ok, Err}
use Rattle.std.specs.Option.{is_some}
use Rattle.smx_types.specs.declared.command.Command.{Command}
use Rattle.smx_types.specs.declared.command.Command.TheVariants as command
use Rattle.smx_types.specs.declared.driver.DriverSpec.{DriverSpec}
use Rattle.smx_types.specs.declared.reply.Fault.{Fault}
use Rattle.smx_types.specs.declared.reply.Reply.{Reply}
use Rattle.smx_types.specs.declared.reply.Reply.TheVariants as reply
use Rattle.smx_types.specs.declared.stream.Place.{Place}
use Rattle.smx_types.specs.declared.stream.StreamId.{StreamId}
use Rattle.smx_model.specs.Configuration.{Configuration, same_place, read_side, write_side}
use Rattle.smx_model.specs.Lookups.{free_stream, live_leaf, live_stream, mux_stream, stream_of}
use Rattle.smx_model.specs.Queues.{first_message}
use Rattle.smx_model.specs.RunMarks.{asks_down, asks_up, either, nowhere}
use Rattle.smx_config.specs.declared.wakes.Wakes.{Wakes}
use Rattle.smx_config.specs.declared.wakes.Wakes.TheVariants as wakes

-- every place
abbrev pub everywhere : Place → Bool
everywhere p = true

-- one of the sides of the stream
abbrev pub is_either_side : StreamId → Place → Bool
is_either_side s = either (same_place (write_side s)) (same_place (read_side s))

-- the places that may get another first message, or whose first message may get another next place
abbrev pub turned_under : Configuration → Wakes → Place → Bool
turned_under c wakes.Nothing = nowhere
turned_under c (wakes.Turns p) = same_place p
turned_under c (wakes.Leaves p) = nowhere
turned_under c (wakes.TurnsWrites driver addr) = asks_down c driver addr
turned_under c (wakes.TurnsReads driver addr) = asks_up c driver addr
turned_under c (wakes.Empties s) = nowhere
turned_under c wakes.Frees = nowhere

-- the reply is `Done`, and names no dropped message
abbrev pub drops_none : Reply → Bool
drops_none (reply.Done []) = true
drops_none (reply.Done (n ∷ ns)) = false
drops_none (reply.Fd fd minor) = false
drops_none (reply.Id id) = false
drops_none (reply.Took serial) = false
drops_none (reply.Got serial addr bytes) = false
drops_none reply.Eof = false
drops_none (reply.Fault f) = false

-- the places that may stop being full; if the reply names no dropped message, emptied places are not among them
abbrev pub freed_under : Reply → Wakes → Place → Bool
freed_under r wakes.Nothing = nowhere
freed_under r (wakes.Turns p) = nowhere
freed_under r (wakes.Leaves p) = same_place p
freed_under r (wakes.TurnsWrites driver addr) = nowhere
freed_under r (wakes.TurnsReads driver addr) = nowhere
freed_under r (wakes.Empties s) = if drops_none r then nowhere else is_either_side s
freed_under r wakes.Frees = if drops_none r then nowhere else everywhere

-- the function's result for the named stream; `Nothing` if no stream is named
abbrev pub on_stream : Result StreamId Fault → (StreamId → Wakes) → Wakes
on_stream (Ok s) f = f s
on_stream (Err fault) f = wakes.Nothing

-- an arrival may wake the place, if it has no message yet
abbrev pub arrives : Configuration → Place → Wakes
arrives c p = if is_some (first_message c.flow p) then wakes.Nothing else wakes.Turns p

-- a link gives the messages on the read side below it a next place
abbrev pub turns_below : Configuration → ℕ → ℕ → Wakes
turns_below c process arg = on_stream (stream_of c process arg) (λ s. wakes.Turns (read_side s))

-- the places that a command may wake, if it is accepted
abbrev pub wakes_of : List DriverSpec → Configuration → ℕ → Command → Wakes
wakes_of drivers c process (command.OpenClone name) = wakes.Nothing
wakes_of drivers c process (command.OpenMinor name minor) = wakes.Nothing
wakes_of drivers c process (command.Dup fd) = wakes.Nothing
wakes_of drivers c process (command.Close fd) = wakes.Frees
wakes_of drivers c process command.CloseAll = wakes.Frees
wakes_of drivers c process (command.Link fd arg) = turns_below c process arg
wakes_of drivers c process (command.Plink fd arg) = turns_below c process arg
wakes_of drivers c process (command.Unlink fd w) = wakes.Frees
wakes_of drivers c process (command.Punlink fd w) = wakes.Frees
wakes_of drivers c process (command.Bind fd addr) =
    on_stream (mux_stream drivers c process fd) (λ s. wakes.TurnsReads s.driver addr)
wakes_of drivers c process (command.Unbind fd) = wakes.Nothing
wakes_of drivers c process (command.Route fd addr id) =
    on_stream (mux_stream drivers c process fd) (λ s. wakes.TurnsWrites s.driver addr)
wakes_of drivers c process (command.Unroute fd addr) = wakes.Nothing
wakes_of drivers c process (command.Write fd addr bytes) =
    on_stream (live_stream c process fd) (λ s. arrives c (write_side s))
wakes_of drivers c process (command.Read fd) = on_stream (free_stream c process fd) (λ s. wakes.Leaves (read_side s))
wakes_of drivers c process (command.Flush fd w) = on_stream (live_stream c process fd) wakes.Empties
wakes_of drivers c process (command.Inject name minor addr bytes) =
    on_stream (live_leaf drivers c name minor) (λ s. arrives c (read_side s))
wakes_of drivers c process (command.Transmit name minor) =
    on_stream (live_leaf drivers c name minor) (λ s. wakes.Leaves (write_side s))
wakes_of drivers c process (command.Hangup name minor) = wakes.Nothing
