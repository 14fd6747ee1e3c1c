-- The words that describe what is expected in a column.
use Rattle.std.specs.Prelude.{ℕ, List, ◌++◌, codes}
use Rattle.smx_explain.specs.declared.kinds.Choice.{Choice}
use Rattle.smx_explain.specs.declared.kinds.Choice.TheVariants.{ProgramsLine, TranscriptLine, SessionLine, Command}
use Rattle.smx_explain.specs.declared.kinds.Choice.TheVariants.{SessionCommand, Switch, Equals, Reply, BadDescriptor}
use Rattle.smx_explain.specs.declared.kinds.Choice.TheVariants.{Invalid, Again, NoDevice, Serials, End}
use Rattle.smx_explain.specs.declared.kinds.Value.{Value}
use Rattle.smx_explain.specs.declared.kinds.Value.TheVariants.{Name, DriverKind, Number, Process, Which, Sides, Side}
use Rattle.smx_explain.specs.declared.kinds.Value.TheVariants.{LinkKind, Bytes}
use Rattle.smx_explain.specs.declared.kinds.Wanted.{Wanted}
use Rattle.smx_explain.specs.declared.kinds.Wanted.TheVariants as wanted

-- the words for a value
abbrev pub value_words : Value → List ℕ
value_words Name = codes "a name of 1 to 8 small letters and digits, a letter first,"
value_words DriverKind = codes "'leaf' or 'mux'"
value_words Number = codes "a number from 0 to 4294967295"
value_words Process = codes "a process from 0 to 63"
value_words Which = codes "an id or 'all'"
value_words Sides = codes "'r', 'w' or 'rw'"
value_words Side = codes "'w' or 'r'"
value_words LinkKind = codes "'link' or 'plink'"
value_words Bytes = codes "hex digits in pairs, or '-',"

-- the words for a choice
abbrev pub choice_words : Choice → List ℕ
choice_words ProgramsLine = codes "'driver', 'process', 'end', a command, or in version 2 'hangup'"
choice_words TranscriptLine =
    codes "'driver', a process from 0 to 63, 'config', 'next', 'fd', 'link', 'bind', 'route', 'msg', 'full', 'end', "
    ++ codes "or in version 2 'hung'"
choice_words SessionLine = codes "'show', 'trace', 'end', or a process from 0 to 63"
choice_words Command = codes "a command, or in version 2 'hangup'"
choice_words SessionCommand = codes "a command, or in version 2 'hangup'"
choice_words Switch = codes "'on' or 'off'"
choice_words Equals = codes "'='"
choice_words Reply = codes "'fd', 'id', 'took', 'got', 'done', an error, or in version 2 'eof'"
choice_words BadDescriptor = codes "'fd'"
choice_words Invalid = codes "'below', 'notmux', 'already', 'cycle', 'id', 'unbound' or 'unrouted'"
choice_words Again = codes "'links', 'full' or 'empty'"
choice_words NoDevice = codes "'driver', 'minor', or in version 2 'hangup'"
choice_words Serials = codes "a number from 0 to 4294967295, or the end of the line"
choice_words End = codes "the end of the line"

-- the words for what is expected
abbrev pub wanted_words : Wanted → List ℕ
wanted_words (wanted.Value value) = value_words value
wanted_words (wanted.Choice choice) = choice_words choice
