-- A transcript with a wrong reply and a wrong view, its replay, and transcripts that are not its replay.
use Rattle.std.specs.Prelude.{List, [], ◌∷◌}
use Rattle.smx_types.specs.declared.transcript.Transcript.{Transcript}
use Rattle.smx_types.specs.declared.version.Version.TheVariants.{V1}
use Rattle.smx_types.specs.declared.view.ConfigView.{ConfigView}
use Rattle.smx_model.specs.Worked.Common.{OpenClone, Dup, CloseAll, Fd, Done, Entry, ◌does◌gets◌, ip, no_lines, fd_of}
use Rattle.smx_model.specs.Worked.SecondIsIllegal.{drivers, history}

-- these entries and this view, over the drivers of the worked history
abbrev pub worked_transcript : List Entry → ConfigView → Transcript
worked_transcript entries shown = record { version = V1; drivers = drivers; entries = entries; view = shown }

-- the transcript claims minor 2 in place of 1, descriptor 2 in place of 1, and nothing open at the end
abbrev pub claimed : Transcript
claimed = worked_transcript history (no_lines 7 9)

-- process 0 opens minor 0
abbrev pub opened : Entry
opened = 0 does OpenClone ip gets Fd 0 0

-- process 1 opens minor 1
abbrev pub another : Entry
another = 1 does OpenClone ip gets Fd 0 1

-- process 0 duplicates its descriptor
abbrev pub copied : Entry
copied = 0 does Dup 0 gets Fd 1 0

-- process 1 exits
abbrev pub exited : Entry
exited = 1 does CloseAll gets Done []

-- two descriptors of process 0 for one stream
abbrev pub two : ConfigView
two = record (no_lines 1 1) { fds = fd_of 0 0 ip 0 ∷ fd_of 0 1 ip 0 ∷ [] }

-- the replay: what the calls give
abbrev pub put_right : Transcript
put_right = worked_transcript (opened ∷ another ∷ copied ∷ exited ∷ []) two

-- the replay without the last call
abbrev pub left_out : Transcript
left_out = worked_transcript (opened ∷ another ∷ copied ∷ [])
    (record (no_lines 1 1) { fds = fd_of 0 0 ip 0 ∷ fd_of 0 1 ip 0 ∷ fd_of 1 0 ip 1 ∷ [] })

-- the replay with two calls exchanged
abbrev pub exchanged : Transcript
exchanged = worked_transcript (opened ∷ copied ∷ another ∷ exited ∷ []) two
