-- The values that each version of the texts can express.
use Rattle.std.specs.Prelude.{ℕ, Bool, true, false, ◌||◌, nat_lt, List, length}
use Rattle.std.specs.List.{list_any}
use Rattle.smx_types.specs.declared.command.Command.{Command}
use Rattle.smx_types.specs.declared.command.Command.TheVariants as command
use Rattle.smx_types.specs.declared.command.Entry.{Entry}
use Rattle.smx_types.specs.declared.driver.DriverSpec.{DriverSpec}
use Rattle.smx_types.specs.declared.limits.TheConstants.{MAX_DRIVERS, MAX_DRIVERS_OF_VERSION_1}
use Rattle.smx_types.specs.declared.reply.Fault.TheVariants as fault
use Rattle.smx_types.specs.declared.reply.Reply.{Reply}
use Rattle.smx_types.specs.declared.reply.Reply.TheVariants as reply
use Rattle.smx_types.specs.declared.transcript.Transcript.{Transcript}
use Rattle.smx_types.specs.declared.version.Version.{Version}
use Rattle.smx_types.specs.declared.version.Version.TheVariants.{V1, V2}

-- the most drivers of a text
abbrev pub most_drivers : Version → ℕ
most_drivers V1 = MAX_DRIVERS_OF_VERSION_1
most_drivers V2 = MAX_DRIVERS

-- the command makes a device hang up
abbrev pub is_hangup : Command → Bool
is_hangup (command.Hangup name minor) = true
is_hangup other = false

-- the reply reports a hangup: end of file, or the refusal after a hangup
abbrev pub tells_of_hangup : Reply → Bool
tells_of_hangup reply.Eof = true
tells_of_hangup (reply.Fault fault.HungUp) = true
tells_of_hangup other = false

-- only version 2 has the entry: its command is a hangup, or its reply reports one
abbrev pub is_of_hangup : Entry → Bool
is_of_hangup e = is_hangup e.command || tells_of_hangup e.reply

-- version 2 if version 1 can't express something, otherwise version 1
abbrev pub version_2_where : Bool → Version
version_2_where true = V2
version_2_where false = V1

-- more drivers than version 1 allows
abbrev pub are_more_drivers : List DriverSpec → Bool
are_more_drivers drivers = nat_lt MAX_DRIVERS_OF_VERSION_1 (length drivers)

-- the earliest version that can express these drivers and programs
abbrev pub least_of_programs : List DriverSpec → List (List Command) → Version
least_of_programs drivers programs =
    version_2_where (are_more_drivers drivers || list_any (list_any is_hangup) programs)

-- the earliest version that can express the transcript
abbrev pub least_of_transcript : Transcript → Version
least_of_transcript t =
    version_2_where (are_more_drivers t.drivers || (list_any is_of_hangup t.entries || nat_lt 0 (length t.view.hungs)))
