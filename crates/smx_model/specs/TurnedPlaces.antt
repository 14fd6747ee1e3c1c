-- The places that a command turns. Only the laws of run marks need this.
use Rattle.std.specs.Prelude.{ℕ, Bool, List, Result, Ok, Err}
use Rattle.smx_types.specs.declared.command.Command.{Command}
use Rattle.smx_types.specs.declared.command.Command.TheVariants as command
use Rattle.smx_types.specs.declared.driver.DriverSpec.{DriverSpec}
use Rattle.smx_types.specs.declared.reply.Fault.{Fault}
use Rattle.smx_types.specs.declared.stream.Place.{Place}
use Rattle.smx_types.specs.declared.stream.StreamId.{StreamId}
use Rattle.smx_model.specs.Configuration.{Configuration, read_side, same_place, write_side}
use Rattle.smx_model.specs.Lookups.{stream_of, free_stream, live_stream, mux_stream, live_leaf}
use Rattle.smx_model.specs.RunMarks.{nowhere, is_first_at, asks_up, asks_down}

-- the places of the named stream, or no places if the command is refused
abbrev pub of_stream : Result StreamId Fault → (StreamId → Place → Bool) → Place → Bool
of_stream (Ok s) places = places s
of_stream (Err fault) places = nowhere

-- for each command, the places that get another first message, or whose first message goes elsewhere next: additions
-- turn some places, and of the removals only that of a message does
abbrev pub turned_by : List DriverSpec → Configuration → ℕ → Command → Place → Bool
turned_by drivers c process (command.OpenClone name) = nowhere
turned_by drivers c process (command.OpenMinor name minor) = nowhere
turned_by drivers c process (command.Dup fd) = nowhere
turned_by drivers c process (command.Close fd) = nowhere
turned_by drivers c process command.CloseAll = nowhere
turned_by drivers c process (command.Link fd arg) =
    of_stream (stream_of c process arg) (λ s. same_place (read_side s))
turned_by drivers c process (command.Plink fd arg) =
    of_stream (stream_of c process arg) (λ s. same_place (read_side s))
turned_by drivers c process (command.Unlink fd w) = nowhere
turned_by drivers c process (command.Punlink fd w) = nowhere
turned_by drivers c process (command.Bind fd addr) =
    of_stream (mux_stream drivers c process fd) (λ s. asks_up c s.driver addr)
turned_by drivers c process (command.Unbind fd) = nowhere
turned_by drivers c process (command.Route fd addr id) =
    of_stream (mux_stream drivers c process fd) (λ s. asks_down c s.driver addr)
turned_by drivers c process (command.Unroute fd addr) = nowhere
turned_by drivers c process (command.Write fd addr bytes) =
    of_stream (live_stream c process fd) (λ s. is_first_at c (write_side s))
turned_by drivers c process (command.Read fd) =
    of_stream (free_stream c process fd) (λ s. same_place (read_side s))
turned_by drivers c process (command.Flush fd w) = nowhere
turned_by drivers c process (command.Inject name minor addr bytes) =
    of_stream (live_leaf drivers c name minor) (λ s. is_first_at c (read_side s))
turned_by drivers c process (command.Transmit name minor) =
    of_stream (live_leaf drivers c name minor) (λ s. same_place (write_side s))
turned_by drivers c process (command.Hangup name minor) = nowhere
