-- A check: its answer to the bytes that it read, and its output.
use Rattle.std.specs.Prelude.{◌≡◌, ℕ, Bool, List, [], ◌∷◌, ◌++◌, length, Option, Result, Ok, Err, String, codes}
use Rattle.std.specs.Prelude.{string_bytes}
use Rattle.std.specs.Global.{Global}
use Rattle.std.specs.Fmt.{decimal}
use Rattle.smx_types.specs.declared.driver.DriverSpec.{DriverSpec}
use Rattle.smx_types.specs.declared.transcript.Transcript.{Transcript}
use Rattle.smx_words.specs.Words.{LINE_FEED, line_of}
use Rattle.smx_text.specs.TranscriptLines.{TranscriptLine}
use Rattle.smx_text.specs.TranscriptText.{transcript_grammar}
use Rattle.smx_model.specs.DriverList.{IsDriverList}
use Rattle.smx_config.specs.Verdicts.{IsVerdict}
use Rattle.smx_config.specs.declared.verdict.Verdict.{Verdict}
use Rattle.smx_config.specs.declared.verdict.Verdict.TheVariants.{Legal, Illegal, ConfigDiffers}
use Rattle.smx_run.specs.RunFaults.{RefusesAlone}
use Rattle.smx_filters.specs.Filters.{Filter, FiltersText}
use Rattle.smx_run.specs.declared.run_fault.RunFault.{RunFault}
use Rattle.smx_run.specs.declared.main_fault.MainFault.{MainFault}
use Rattle.smx_run.specs.declared.main_fault.MainFault.TheVariants.{Refused}

-- the words of a verdict on `entries` entries: their number, or which one is the first illegal one
abbrev pub verdict_words : ℕ → Verdict → List (List ℕ)
verdict_words entries Legal = codes "legal" ∷ decimal entries ∷ []
verdict_words entries (Illegal entry) = codes "illegal" ∷ decimal entry ∷ []
verdict_words entries ConfigDiffers = codes "config" ∷ codes "differs" ∷ []

-- the line of these words, with the line feed
abbrev pub verdict_line : ℕ → Verdict → List ℕ
verdict_line entries verdict = line_of (verdict_words entries verdict) ++ LINE_FEED ∷ []

-- the verdict on a transcript, and its line
pub record IsJudged (t : Transcript) (verdict : Verdict) (output : List ℕ) : Type 0 where
  -- The drivers of the transcript are valid.
  pub valid_drivers : IsDriverList t.drivers
  -- The verdict is the one on its entries and its view.
  pub judged : IsVerdict t.drivers t.entries t.view verdict
  -- The output is the line of that verdict, with the number of the entries, and nothing else.
  pub written : output ≡ verdict_line (length t.entries) verdict

-- why a transcript over these drivers is not judged: they are refused, or an allocation failed
abbrev pub IsRefusedCheck : List DriverSpec → MainFault → Type 0
IsRefusedCheck drivers fault = (f : RunFault) × (fault ≡ Refused f) × RefusesAlone drivers f

-- A check reads a transcript, writes the line of the verdict on it, and answers that verdict. Or it refuses the
-- drivers, or is out of memory.
abbrev pub checking : Filter Transcript TranscriptLine Verdict
checking = record {
  grammar = transcript_grammar;
  Gives = IsJudged;
  Refuses = λ t. RefusesAlone t.drivers;
}

-- an answer with the line as the list of its bytes
abbrev pub judged_of : Result (Verdict × String Global) MainFault → Result (Verdict × List ℕ) MainFault
judged_of (Ok judged) = Ok (judged.0, string_bytes judged.1)
judged_of (Err e) = Err e

-- a check from bytes to bytes
abbrev pub ChecksText : Option (List ℕ) → Option (List ℕ) → Bool → ℕ
    → Option (List ℕ) → Option (List ℕ) → Bool → ℕ → Result Verdict MainFault → Type 0
ChecksText = FiltersText checking
