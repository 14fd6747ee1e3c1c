-- The explanation below the verdict on a transcript: the first line in which it and its replay differ.
use Rattle.std.specs.Prelude.{◌≡◌, ℕ, List, [], ◌∷◌, ◌++◌, ◌⊎◌, codes}
use Rattle.std.specs.Fmt.{decimal}
use Rattle.smx_types.specs.declared.transcript.Transcript.{Transcript}
use Rattle.smx_words.specs.Words.{LINE_FEED}
use Rattle.smx_text.specs.TranscriptText.{IsSpellable, transcript_text}
use Rattle.smx_trace.specs.Replays.{IsReplayOf}
use Rattle.smx_explain.specs.Differences.{IsFirstDifference}

-- two lines: line `number` of a text, and the same line of its replay
abbrev pub difference_text : ℕ → List ℕ → List ℕ → List ℕ
difference_text number told has =
    codes "line " ++ decimal number ++ codes ": " ++ told ++ LINE_FEED ∷ codes "replay: " ++ has ++ LINE_FEED ∷ []

-- the output shows the first line in which these texts differ
abbrev pub TellsDifference : List ℕ → List ℕ → List ℕ → Type 0
TellsDifference one other output = (number : ℕ) × (told has : List ℕ) × IsFirstDifference one other number told has
    × (output ≡ difference_text number told has)

-- the explanation of a transcript
pub record IsExplanation (t : Transcript) (output : List ℕ) : Type 0 where
  -- It has a replay, and each line of the replay can be spelled.
  pub replay : Transcript
  pub replays : IsReplayOf t replay
  pub spellable : IsSpellable replay
  -- The replay is the transcript itself, and the output is empty; or the output shows the first line in which they
  -- differ.
  pub shown : ((replay ≡ t) × (output ≡ [])) ⊎ TellsDifference (transcript_text t) (transcript_text replay) output
