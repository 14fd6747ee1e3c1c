-- A check that explains its verdict, and filters that keep a text with a fault.
use Rattle.std.specs.Prelude.{◌≡◌, ℕ, ◌++◌, Bool, true, false, List, length, Option, None, Result, Ok, Err, Vec, IfErr}
use Rattle.std.specs.Global.{Global}
use Rattle.smx_types.specs.declared.transcript.Transcript.{Transcript}
use Rattle.smx_text.specs.TranscriptLines.{TranscriptLine}
use Rattle.smx_text.specs.TranscriptText.{transcript_grammar}
use Rattle.smx_config.specs.declared.verdict.Verdict.{Verdict}
use Rattle.smx_explain.specs.Explanations.{IsExplanation}
use Rattle.smx_run.specs.Refusals.{IsKept, answer_of, is_in_text}
use Rattle.smx_run.specs.RunFaults.{RefusesAlone}
use Rattle.smx_run.specs.declared.main_fault.MainFault.{MainFault}
use Rattle.smx_run.specs.declared.main_fault.Refusal.{Refusal}
use Rattle.smx_filters.specs.CheckText.{IsJudged, checking, verdict_line}
use Rattle.smx_filters.specs.Filters.{Filter, FiltersText}

-- ---- a verdict

-- the verdict on a transcript, its line, and the explanation below it
pub record IsExplained (t : Transcript) (verdict : Verdict) (output : List ℕ) : Type 0 where
  -- The line is what a check writes.
  pub judged : IsJudged t verdict (verdict_line (length t.entries) verdict)
  -- The explanation compares the transcript with its replay.
  pub explanation : List ℕ
  pub explained : IsExplanation t explanation
  -- The output is both, and nothing else.
  pub written : output ≡ verdict_line (length t.entries) verdict ++ explanation

-- A check that explains its verdict reads a transcript, answers the verdict on it, and writes the verdict with the
-- explanation below it. Or it refuses the drivers, or is out of memory.
abbrev pub explaining : Filter Transcript TranscriptLine Verdict
explaining = record {
  grammar = transcript_grammar;
  Gives = IsExplained;
  Refuses = λ t. RefusesAlone t.drivers;
}

-- a check that explains its verdict, or one that doesn't
abbrev pub judging : Bool → Filter Transcript TranscriptLine Verdict
judging false = checking
judging true = explaining

-- an answer with the output as the list of its bytes
abbrev pub explained_of : Result (Verdict × Vec ℕ Global) MainFault → Result (Verdict × List ℕ) MainFault
explained_of (Ok explained) = Ok (explained.0, explained.1.items)
explained_of (Err e) = Err e

-- ---- a text that is kept

-- a filter from bytes to bytes that keeps a text if it finds a fault in it or in its drivers
pub record KeepsText {V K T : Type 0} (f : Filter V K T) (had left : Option (List ℕ)) (ended : Bool)
    (read_failures : ℕ) (before after : Option (List ℕ)) (flushed : Bool) (write_failures : ℕ)
    (answer : Result T Refusal) : Type 0 where
  -- It answers as the filter does.
  pub filtered : FiltersText f had left ended read_failures before after flushed write_failures (answer_of answer)
  -- If the fault is one of the text or of its drivers, all that was read is kept.
  pub kept : IfErr answer (λ r. is_in_text r.fault ≡ true → IsKept r.text filtered.read)
  -- On any other fault nothing is kept.
  pub given_up : IfErr answer (λ r. is_in_text r.fault ≡ false → r.text ≡ None)
