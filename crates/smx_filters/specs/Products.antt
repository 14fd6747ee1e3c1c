-- The products of a transcript, a replay, a trace, a picture or a page: the output of each, and why it is refused.
use Rattle.std.specs.Prelude.{◌≡◌, ℕ, ◌<◌, ◌≤◌, List, length, Option, Some, None}
use Rattle.smx_types.specs.declared.transcript.Transcript.{Transcript}
use Rattle.smx_text.specs.TranscriptLines.{TranscriptLine}
use Rattle.smx_text.specs.TranscriptText.{transcript_grammar, SpellsTranscript}
use Rattle.smx_trace.specs.Prefixes.{first_entries}
use Rattle.smx_trace.specs.Replays.{IsReplayOf}
use Rattle.smx_trace.specs.Traces.{IsTraceText}
use Rattle.smx_draw.specs.Pictures.{IsPictureOf}
use Rattle.smx_draw.specs.declared.form.Form.TheVariants as form
use Rattle.smx_steps.specs.Pages.{IsOver, IsPageOf}
use Rattle.smx_steps.specs.declared.pages.TheConstants.{MAX_PAGE, MAX_STEPS}
use Rattle.smx_run.specs.RunFaults.{RefusesAlone}
use Rattle.smx_run.specs.declared.product.Product.{Product}
use Rattle.smx_run.specs.declared.product.Product.TheVariants.{Replay, Trace, Svg, Dot, Page}
use Rattle.smx_run.specs.declared.run_fault.RunFault.{RunFault}
use Rattle.smx_run.specs.declared.run_fault.RunFault.TheVariants as run
use Rattle.smx_filters.specs.Filters.{Filter}

-- ---- a replay of a transcript or of its first entries

-- the transcript that the commands of this one give
pub record IsReplayed (t : Transcript) (output : List ℕ) : Type 0 where
  -- There is a legal history of exactly its calls, in its order, reported with the view after it and in its version.
  pub replay : Transcript
  pub replays : IsReplayOf t replay
  -- The output is the transcript of that history, and nothing else.
  pub written : SpellsTranscript output replay

-- the part that is to be replayed: this number of first entries, or all of them
abbrev pub asked_part : Option ℕ → Transcript → Transcript
asked_part None t = t
asked_part (Some count) t = first_entries count t

-- the transcript has fewer entries than are to be replayed
abbrev pub IsPastEnd : Option ℕ → Transcript → Type 0
IsPastEnd None t = ⊥
IsPastEnd (Some count) t = length t.entries < count

-- more entries are asked for than there are, and the fault has their number; or there are enough, and the drivers are
-- refused, or memory ran out
abbrev pub RefusesPart : Option ℕ → Transcript → RunFault → Type 0
RefusesPart at t (run.FewEntries count) = (count ≡ length t.entries) × IsPastEnd at t
RefusesPart at t other = (IsPastEnd at t → ⊥) × RefusesAlone t.drivers other

-- ---- a page

-- the page of a transcript's replay, within both limits
pub record IsShortPage (t : Transcript) (output : List ℕ) : Type 0 where
  pub page : IsPageOf t output
  pub few : length t.entries ≤ MAX_STEPS
  pub short : length output ≤ MAX_PAGE

-- the page is over a limit; or it has few enough entries, and the drivers are refused, or memory ran out
abbrev pub RefusesSteps : Transcript → RunFault → Type 0
RefusesSteps t (run.LongPage count) = IsOver t count
RefusesSteps t other = (length t.entries ≤ MAX_STEPS) × RefusesAlone t.drivers other

-- ---- each product

-- The output is this product of a transcript. A replay, a trace and a page depend neither on its replies nor on its
-- view, and a picture only on its drivers and its view.
abbrev pub IsProductOf : Product → Transcript → List ℕ → Type 0
IsProductOf (Replay at) t output = (IsPastEnd at t → ⊥) × IsReplayed (asked_part at t) output
IsProductOf (Trace waits) t output = IsTraceText waits t output
IsProductOf Svg t output = IsPictureOf form.Svg t output
IsProductOf Dot t output = IsPictureOf form.Dot t output
IsProductOf Page t output = IsShortPage t output

-- why this product is not made: a trace is refused as a check is, and a picture only if memory ran out
abbrev pub RefusesProduct : Product → Transcript → RunFault → Type 0
RefusesProduct (Replay at) t fault = RefusesPart at t fault
RefusesProduct (Trace waits) t fault = RefusesAlone t.drivers fault
RefusesProduct Svg t fault = fault ≡ run.NoMemory
RefusesProduct Dot t fault = fault ≡ run.NoMemory
RefusesProduct Page t fault = RefusesSteps t fault

-- The filter for this product reads a transcript and writes the product. Its answer says only that it is done.
abbrev pub making : Product → Filter Transcript TranscriptLine (Unit {0})
making product = record {
  grammar = transcript_grammar;
  Gives = λ t done output. IsProductOf product t output;
  Refuses = RefusesProduct product;
}
