-- The trace of a transcript: its replay, with the changes of each entry and the waits of queues.
use Rattle.std.specs.Prelude.{◌≡◌, ℕ, Bool, if◌then◌else◌, List, [], ◌∷◌, ◌++◌, map, Option, Some, None}
use Rattle.std.specs.List.{filter_map, flat_map, list_any}
use Rattle.smx_types.specs.declared.command.Entry.{Entry}
use Rattle.smx_types.specs.declared.driver.DriverSpec.{DriverSpec}
use Rattle.smx_types.specs.declared.stream.Place.{Place}
use Rattle.smx_types.specs.declared.transcript.Transcript.{Transcript}
use Rattle.smx_model.specs.Changes.{Change, changes}
use Rattle.smx_model.specs.Commands.{step}
use Rattle.smx_model.specs.Configuration.{Configuration, QueuedMessage, empty, is_at}
use Rattle.smx_model.specs.Histories.{after}
use Rattle.smx_model.specs.Views.{view, view_of_bind, view_of_fd, view_of_full, view_of_hung, view_of_link}
use Rattle.smx_model.specs.Views.{view_of_message, view_of_route}
use Rattle.smx_model.specs.Waits.{Wait, wait_at, waits}
use Rattle.smx_words.specs.Words.{LINE_FEED, line_of}
use Rattle.smx_text.specs.Grammar.{header}
use Rattle.smx_text.specs.TranscriptLines.{TranscriptLine}
use Rattle.smx_text.specs.TranscriptLines as line
use Rattle.smx_text.specs.TranscriptText.{line_words, transcript_grammar}
use Rattle.smx_trace.specs.Replays.{IsReplayOf}
use Rattle.smx_trace.specs.TraceWords.{change_text, wait_text}

-- a line of the replay's transcript; or, two spaces in, a change of the entry above, or a wait
pub data TraceLine : Type 0 where
  Plain : TranscriptLine → TraceLine
  Changed : Change → TraceLine
  Waits : Wait → TraceLine

-- the text of a line
abbrev pub trace_line_text : List DriverSpec → TraceLine → List ℕ
trace_line_text drivers (Plain l) = line_of (line_words l) ++ LINE_FEED ∷ []
trace_line_text drivers (Changed c) = change_text c
trace_line_text drivers (Waits w) = wait_text drivers w

-- the text of some lines
abbrev pub trace_lines_text : List DriverSpec → List TraceLine → List ℕ
trace_lines_text drivers lines = flat_map (trace_line_text drivers) lines

-- the lines below an entry that leads from one configuration to another: its changes, and all waits, if they are
-- wanted below each entry
abbrev pub lines_below : Bool → List DriverSpec → Configuration → Configuration → List TraceLine
lines_below each drivers c d =
    map Changed (changes (view drivers c) (view drivers d)) ++ (if each then map Waits (waits drivers d) else [])

-- the line of an entry, and the lines below it
abbrev pub lines_of_entry : Bool → List DriverSpec → Configuration → Entry → List TraceLine
lines_of_entry each drivers c e =
    Plain (line.Entry e) ∷ lines_below each drivers c (step drivers c e.process e.command).0

-- each entry and the lines below it, from this configuration on
abbrev pub entry_lines_from : Bool → List DriverSpec → Configuration → List Entry → List TraceLine
entry_lines_from each drivers c [] = []
entry_lines_from each drivers c (e ∷ es) =
    let d : Configuration = (step drivers c e.process e.command).0 in
    Plain (line.Entry e) ∷ lines_below each drivers c d ++ entry_lines_from each drivers d es

-- the wait at a place, if there is one
abbrev pub wait_line : List DriverSpec → Configuration → Place → List TraceLine
wait_line drivers c p = elim (wait_at drivers c p) [ None ↦ [] | Some w ↦ Waits w ∷ [] ]

-- queued messages, and below the last of each queue its wait
abbrev pub queue_lines : List DriverSpec → Configuration → List QueuedMessage → List TraceLine
queue_lines drivers c [] = []
queue_lines drivers c (h ∷ hs) = Plain (line.Msg (view_of_message drivers h))
    ∷ (if list_any (is_at h.place) hs then [] else wait_line drivers c h.place) ++ queue_lines drivers c hs

-- the configuration, with all waits
abbrev pub config_lines : List DriverSpec → Configuration → List TraceLine
config_lines drivers c = Plain line.Config ∷ Plain (line.Next c.next_id c.next_serial)
    ∷ map (λ d. Plain (line.Fd (view_of_fd drivers d))) c.fds
    ++ (map (λ l. Plain (line.Link (view_of_link drivers l))) c.links
    ++ (map (λ b. Plain (line.Bind (view_of_bind drivers b))) c.binds
    ++ (map (λ r. Plain (line.Route (view_of_route drivers r))) c.routes
    ++ (queue_lines drivers c c.flow
    ++ (map (λ p. Plain (line.Full (view_of_full drivers p))) c.fulls
    ++ map (λ s. Plain (line.Hung (view_of_hung drivers s))) c.hungs)))))

-- all lines of the trace of a history after the header
abbrev pub trace_lines : Bool → List DriverSpec → List Entry → List TraceLine
trace_lines each drivers entries = map (λ d. Plain (line.Driver d)) drivers
    ++ (entry_lines_from each drivers empty entries
    ++ (config_lines drivers (after drivers entries) ++ Plain line.End ∷ []))

-- the header and these lines
abbrev pub trace_text : Bool → Transcript → List ℕ
trace_text each t = header (transcript_grammar t.version)
    ++ LINE_FEED ∷ trace_lines_text t.drivers (trace_lines each t.drivers t.entries)

-- the lines without those that are two spaces in
abbrev pub plain_lines : List TraceLine → List TranscriptLine
plain_lines lines = filter_map plain lines where
  plain : TraceLine → Option TranscriptLine
  plain (Plain l) = Some l
  plain (Changed c) = None
  plain (Waits w) = None

-- the text of the trace of a transcript; with or without waits below each entry
pub record IsTraceText (each : Bool) (t : Transcript) (output : List ℕ) : Type 0 where
  pub replay : Transcript
  pub replays : IsReplayOf t replay
  -- The output is the trace of the replay, and nothing else.
  pub written : output ≡ trace_text each replay
