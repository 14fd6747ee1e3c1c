-- The replay of a transcript: the entries that its commands give in its order, whatever replies it had.
use Rattle.std.specs.Prelude.{◌≡◌, ℕ, List, map}
use Rattle.smx_types.specs.declared.transcript.Transcript.{Transcript}
use Rattle.smx_model.specs.DriverList.{IsDriverList}
use Rattle.smx_model.specs.Histories.{IsLegal, after, call_of}
use Rattle.smx_model.specs.Views.{view}
use Rattle.smx_text.specs.TranscriptText.{IsSpellable, transcript_text}

-- the replay of a transcript; it depends only on the version, the drivers and the calls
pub record IsReplayOf (t replay : Transcript) : Type 0 where
  -- Version and drivers are those of the transcript, and the drivers are valid.
  pub version : replay.version ≡ t.version
  pub drivers : replay.drivers ≡ t.drivers
  pub valid_drivers : IsDriverList t.drivers
  -- The entries are the legal history of its calls: the same commands of the same processes, in the same order.
  pub calls : map call_of replay.entries ≡ map call_of t.entries
  pub legal : IsLegal t.drivers replay.entries
  -- The view is that of the configuration after the whole history.
  pub shown : replay.view ≡ view t.drivers (after t.drivers replay.entries)

-- the text of the replay of a transcript
pub record IsReplayText (t : Transcript) (output : List ℕ) : Type 0 where
  pub replay : Transcript
  pub replays : IsReplayOf t replay
  -- The output is its one text, and nothing else, and each line of it can be spelled.
  pub written : output ≡ transcript_text replay
  pub spellable : IsSpellable replay
