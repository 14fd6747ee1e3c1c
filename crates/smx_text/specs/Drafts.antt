-- A transcript that is being read: the lines so far, and which lines may follow. No public clause needs this.
use Rattle.std.specs.Prelude.{◌≡◌, ◌≤◌, ℕ, Bool, true, false, ◌&&◌, ◌==◌, List, [], ◌∷◌, ◌++◌, length, map}
use Rattle.std.specs.List.{sum_by}
use Rattle.smx_types.specs.declared.command.Command.{Command}
use Rattle.smx_types.specs.declared.limits.TheConstants.{MAX_COMMANDS}
use Rattle.smx_types.specs.declared.transcript.Transcript.{Transcript}
use Rattle.smx_types.specs.declared.view.ConfigView.{ConfigView}
use Rattle.smx_text.specs.declared.transcript.Stage.{Stage}
use Rattle.smx_text.specs.declared.transcript.Stage.TheVariants as stage
use Rattle.smx_text.specs.declared.transcript.TranscriptDraft.{TranscriptDraft}
use Rattle.smx_text.specs.Grammar.{Grammar}
use Rattle.smx_text.specs.TranscriptLines.{TranscriptLine}
use Rattle.smx_text.specs.TranscriptLines as line
use Rattle.smx_text.specs.TranscriptText.{transcript_grammar, view_body}

-- `count` is the number of commands of these programs, and it is within the limit
pub record IsCounted (programs : List (List Command)) (count : ℕ) : Type 0 where
  pub has_commands : count ≡ sum_by length programs
  pub few_commands : count ≤ MAX_COMMANDS

-- the lines after the entries, at this stage, with this view read so far
abbrev pub shown : Stage → ConfigView → List TranscriptLine
shown stage.History v = []
shown stage.Config v = line.Config ∷ []
shown stage.View v = line.Config ∷ view_body v

-- the lines of a transcript that were read so far
abbrev pub lines : TranscriptDraft → List TranscriptLine
lines d =
    map line.Driver d.transcript.drivers ++ (map line.Entry d.transcript.entries
    ++ shown d.stage d.transcript.view)

-- the grammar of the version of the transcript
abbrev pub grammar_of : TranscriptDraft → Grammar Transcript TranscriptLine
grammar_of d = transcript_grammar d.transcript.version

-- at this stage, lines of groups are read
abbrev pub is_view : Stage → Bool
is_view stage.History = false
is_view stage.Config = false
is_view stage.View = true

-- a line of a hung-up stream may follow: this is the last group
abbrev pub takes_hungs : TranscriptDraft → Bool
takes_hungs d = is_view d.stage

-- a line of a full place may follow: the later group is empty
abbrev pub takes_fulls : TranscriptDraft → Bool
takes_fulls d = takes_hungs d && (length d.transcript.view.hungs == 0)

-- a line of a message may follow: the later groups are empty
abbrev pub takes_msgs : TranscriptDraft → Bool
takes_msgs d = takes_fulls d && (length d.transcript.view.fulls == 0)

-- a line of a route may follow: the later groups are empty
abbrev pub takes_routes : TranscriptDraft → Bool
takes_routes d = takes_msgs d && (length d.transcript.view.msgs == 0)

-- a line of a binding may follow: the later groups are empty
abbrev pub takes_binds : TranscriptDraft → Bool
takes_binds d = takes_routes d && (length d.transcript.view.routes == 0)

-- a line of a link may follow: the later groups are empty
abbrev pub takes_links : TranscriptDraft → Bool
takes_links d = takes_binds d && (length d.transcript.view.binds == 0)

-- a line of a descriptor may follow: the later groups are empty
abbrev pub takes_fds : TranscriptDraft → Bool
takes_fds d = takes_links d && (length d.transcript.view.links == 0)
