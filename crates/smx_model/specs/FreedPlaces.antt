-- The places that a command frees. Only laws of marks, and private invariants of `smx_config`, need this.
use Rattle.std.specs.Prelude.{◌≡◌, ◌≢◌, ℕ, Bool, true, ◌&&◌, not, List, None}
use Rattle.std.specs.Option.{is_some}
use Rattle.smx_types.specs.declared.command.Command.{Command}
use Rattle.smx_types.specs.declared.command.Command.TheVariants as command
use Rattle.smx_types.specs.declared.command.Sides.{Sides}
use Rattle.smx_types.specs.declared.driver.DriverSpec.{DriverSpec}
use Rattle.smx_types.specs.declared.stream.Place.{Place}
use Rattle.smx_types.specs.declared.stream.StreamId.{StreamId}
use Rattle.smx_model.specs.Commands.{is_side}
use Rattle.smx_model.specs.Configuration.{Configuration, same_place, same_stream, read_side, write_side}
use Rattle.smx_model.specs.Lookups.{free_stream, live_stream, live_leaf}
use Rattle.smx_model.specs.Queues.{first_message, is_full}
use Rattle.smx_model.specs.RunMarks.{is_freed, nowhere}
use Rattle.smx_model.specs.TurnedPlaces.{of_stream}

-- only these places may stop being full
abbrev pub FreesOnly : Configuration → Configuration → (Place → Bool) → Type 0
FreesOnly old new freed = (p : Place) → is_freed old new p ≡ true → freed p ≡ true

-- each full place has messages
abbrev pub HaveFullPlacesMessages : Configuration → Type 0
HaveFullPlacesMessages c = (p : Place) → is_full c p ≡ true → first_message c.flow p ≢ None

-- no message is at this place
abbrev pub is_empty_at : Configuration → Place → Bool
is_empty_at c p = not (is_some (first_message c.flow p))

-- the place is one of the named sides of the stream
abbrev pub is_side_of : StreamId → Sides → Place → Bool
is_side_of s w p = same_stream p.stream s && is_side w p.side

-- for each command, the places that it may make not full: those that it empties, and the one that a message leaves
abbrev pub freed_by : List DriverSpec → Configuration → ℕ → Command → Configuration → Place → Bool
freed_by drivers c process (command.OpenClone name) new = nowhere
freed_by drivers c process (command.OpenMinor name minor) new = nowhere
freed_by drivers c process (command.Dup fd) new = nowhere
freed_by drivers c process (command.Close fd) new = is_empty_at new
freed_by drivers c process command.CloseAll new = is_empty_at new
freed_by drivers c process (command.Link fd arg) new = nowhere
freed_by drivers c process (command.Plink fd arg) new = nowhere
freed_by drivers c process (command.Unlink fd w) new = is_empty_at new
freed_by drivers c process (command.Punlink fd w) new = is_empty_at new
freed_by drivers c process (command.Bind fd addr) new = nowhere
freed_by drivers c process (command.Unbind fd) new = nowhere
freed_by drivers c process (command.Route fd addr id) new = nowhere
freed_by drivers c process (command.Unroute fd addr) new = nowhere
freed_by drivers c process (command.Write fd addr bytes) new = nowhere
freed_by drivers c process (command.Read fd) new = of_stream (free_stream c process fd) (λ s. same_place (read_side s))
freed_by drivers c process (command.Flush fd w) new = of_stream (live_stream c process fd) (λ s. is_side_of s w)
freed_by drivers c process (command.Inject name minor addr bytes) new = nowhere
freed_by drivers c process (command.Transmit name minor) new =
    of_stream (live_leaf drivers c name minor) (λ s. same_place (write_side s))
freed_by drivers c process (command.Hangup name minor) new = nowhere
