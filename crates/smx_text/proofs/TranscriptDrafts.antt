-- A transcript that is being read, as a machine that accepts line after line.
use Rattle.smx_text.proofs.Common.{MAX_COMMANDS, Transcript, ConfigView, Stage, TranscriptDraft, lines}
use Rattle.smx_text.proofs.Common.{TranscriptLine, most_drivers, Version}
use Rattle.std.specs.Prelude.{◌≡◌, ◌≤◌, ℕ, Bool, true, false, ◌&&◌, ◌==◌, nat_le, List, [], ◌∷◌, ◌++◌, length}
use Rattle.smx_text.specs.declared.transcript.Stage.TheVariants as stage
use Rattle.smx_text.specs.Drafts.{is_view, takes_fds, takes_links, takes_binds, takes_routes, takes_msgs, takes_fulls}
use Rattle.smx_text.specs.Drafts.{takes_hungs}
use Rattle.smx_text.specs.TranscriptLines as line
use Rattle.smx_text.proofs.MachineLemmas.{Machine}

-- a view with empty groups
abbrev pub new_view : ℕ → ℕ → ConfigView
new_view id serial =
    record {
      next_id = id;
      next_serial = serial;
      fds = [];
      links = [];
      binds = [];
      routes = [];
      msgs = [];
      fulls = [];
      hungs = [];
    }

-- a transcript that is being read, at this stage
abbrev pub draft : Stage → Transcript → TranscriptDraft
draft s t = record { stage = s; transcript = t }

-- drivers and entries are read
abbrev pub is_history : Stage → Bool
is_history stage.History = true
is_history s = false

-- the line `config` was the last
abbrev pub is_config : Stage → Bool
is_config stage.Config = true
is_config s = false

-- the line may follow
abbrev pub takes : TranscriptDraft → TranscriptLine → Bool
takes d (line.Driver x) = is_history d.stage && (length d.transcript.entries == 0)
takes d (line.Entry x) = is_history d.stage
takes d line.Config = is_history d.stage
takes d (line.Next id serial) = is_config d.stage
takes d (line.Fd x) = takes_fds d
takes d (line.Link x) = takes_links d
takes d (line.Bind x) = takes_binds d
takes d (line.Route x) = takes_routes d
takes d (line.Msg x) = takes_msgs d
takes d (line.Full x) = takes_fulls d
takes d (line.Hung x) = takes_hungs d
takes d line.End = is_view d.stage

-- the limit for drivers or entries is reached, and the line is one more
abbrev pub is_full : TranscriptDraft → TranscriptLine → Bool
is_full d (line.Driver x) = nat_le (most_drivers d.transcript.version) (length d.transcript.drivers)
is_full d (line.Entry x) = nat_le MAX_COMMANDS (length d.transcript.entries)
is_full d k = false

-- a draft with this view
abbrev pub with_view : TranscriptDraft → ConfigView → TranscriptDraft
with_view d v = record d { transcript = record d.transcript { view = v } }

-- a draft with one more line
abbrev pub with_line : TranscriptDraft → TranscriptLine → TranscriptDraft
with_line d (line.Driver x) = record d { transcript = record d.transcript { drivers = d.transcript.drivers ++ x ∷ [] } }
with_line d (line.Entry x) = record d { transcript = record d.transcript { entries = d.transcript.entries ++ x ∷ [] } }
with_line d line.Config = record d { stage = stage.Config }
with_line d (line.Next id serial) = record (with_view d (new_view id serial)) { stage = stage.View }
with_line d (line.Fd x) = with_view d (record d.transcript.view { fds = d.transcript.view.fds ++ x ∷ [] })
with_line d (line.Link x) = with_view d (record d.transcript.view { links = d.transcript.view.links ++ x ∷ [] })
with_line d (line.Bind x) = with_view d (record d.transcript.view { binds = d.transcript.view.binds ++ x ∷ [] })
with_line d (line.Route x) = with_view d (record d.transcript.view { routes = d.transcript.view.routes ++ x ∷ [] })
with_line d (line.Msg x) = with_view d (record d.transcript.view { msgs = d.transcript.view.msgs ++ x ∷ [] })
with_line d (line.Full x) = with_view d (record d.transcript.view { fulls = d.transcript.view.fulls ++ x ∷ [] })
with_line d (line.Hung x) = with_view d (record d.transcript.view { hungs = d.transcript.view.hungs ++ x ∷ [] })
with_line d line.End = d

-- the draft has this version, and at most as many drivers and entries as allowed
pub record IsWithin (version : Version) (d : TranscriptDraft) : Type 0 where
  pub version_is : d.transcript.version ≡ version
  pub drivers : length d.transcript.drivers ≤ most_drivers version
  pub entries : length d.transcript.entries ≤ MAX_COMMANDS

-- the view as far as it was read: before its first line it is empty
abbrev pub seen : Stage → ConfigView → ConfigView
seen stage.History v = new_view 0 0
seen stage.Config v = new_view 0 0
seen stage.View v = v

-- the transcript of a draft's lines and the fewest missing lines
abbrev pub completed : TranscriptDraft → Transcript
completed d = record d.transcript { view = seen d.stage d.transcript.view }

-- the fewest lines missing before the end: `config`, and the next id and serial, unless they were read
abbrev pub still : Stage → List TranscriptLine
still stage.History = line.Config ∷ line.Next 0 0 ∷ []
still stage.Config = line.Next 0 0 ∷ []
still stage.View = []

-- the machine that reads transcripts of a version; until it reads the lines of a view, its view is any view
abbrev pub machine : Version → ConfigView → Machine Transcript TranscriptLine TranscriptDraft
machine version view = record {
  start = draft stage.History (record { version = version; drivers = []; entries = []; view = view });
  lines = lines;
  takes = takes;
  is_full = is_full;
  with_line = with_line;
  IsWithin = IsWithin version;
  whole = λ t. draft stage.View (record t { version = version });
  shortest = completed;
  still = λ d. still d.stage;
}
