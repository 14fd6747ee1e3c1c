-- How the program ends: the result of its job, and the exit status for it.
use Rattle.std.specs.Prelude.{◌≡◌, ℕ, Bool, List, [], Option, Some, Result, Ok, Err}
use Rattle.std.specs.Process.{exit_status}
use Rattle.std.specs.declared.process.ExitCode.{ExitCode}
use Rattle.smx_filters.specs.ExplainText.{judging}
use Rattle.smx_filters.specs.Filters.{Filter, FiltersText}
use Rattle.smx_filters.specs.Products.{making}
use Rattle.smx_filters.specs.RunText.{running}
use Rattle.smx_live.specs.LiveText.{LivesText}
use Rattle.smx_run.specs.Statuses.{status_of_outcome}
use Rattle.smx_run.specs.declared.main_fault.Done.{Done}
use Rattle.smx_run.specs.declared.main_fault.Done.TheVariants.{Finished, Judged}
use Rattle.smx_run.specs.declared.main_fault.MainFault.{MainFault}
use Rattle.smx_command_line.specs.declared.jobs.Job.{Job}
use Rattle.smx_command_line.specs.declared.jobs.Job.TheVariants.{Run, Check, Make, Live}

-- the outcome of a job, if `done` says what a success has done
abbrev pub outcome_of : {T : Type 0} → (T → Done) → Result T MainFault → Result Done MainFault
outcome_of done (Ok answer) = Ok (done answer)
outcome_of done (Err fault) = Err fault

-- a run, a product or a live session that succeeded has finished
abbrev pub finished : Unit {0} → Done
finished done = Finished

-- the reader's bytes before and after, whether it has ended, and how often it failed; the same of the writer
pub record Devices : Type 0 where
  pub had : Option (List ℕ)
  pub left : Option (List ℕ)
  pub ended : Bool
  pub read_failures : ℕ
  pub before : Option (List ℕ)
  pub after : Option (List ℕ)
  pub flushed : Bool
  pub write_failures : ℕ

-- a reader and a writer before and now, given what is known of each
abbrev pub devices : {F S : Type 0} → (F → Option (List ℕ)) → (F → Bool) → (F → ℕ) → (S → Option (List ℕ)) → (S → Bool)
    → (S → ℕ) → F → F → S → S → Devices
devices remaining ended read_failures contents flushed write_failures feed feed_now sink sink_now = record {
  had = remaining feed;
  left = remaining feed_now;
  ended = ended feed_now;
  read_failures = read_failures feed_now;
  before = contents sink;
  after = contents sink_now;
  flushed = flushed sink_now;
  write_failures = write_failures sink_now;
}

-- the input was there to read, nothing had been written, and the output is written now
pub record Writes (d : Devices) (input output : List ℕ) : Type 0 where
  pub had : d.had ≡ Some input
  pub before : d.before ≡ Some []
  pub after : d.after ≡ Some output

-- this filter did its work, and the status is that of the result
pub record EndsFilter {V K T : Type 0} (f : Filter V K T) (done : T → Done) (d : Devices) (code : ExitCode) : Type 0 where
  pub answer : Result T MainFault
  pub filtered : FiltersText f d.had d.left d.ended d.read_failures d.before d.after d.flushed d.write_failures answer
  pub status : exit_status code ≡ status_of_outcome (outcome_of done answer)

-- the lines were answered, with or without explanations, and the status is that of the result
pub record EndsLive (explain : Bool) (d : Devices) (code : ExitCode) : Type 0 where
  pub answer : Result (Unit {0}) MainFault
  pub lived : LivesText explain d.had d.left d.ended d.read_failures d.before d.after d.flushed d.write_failures answer
  pub status : exit_status code ≡ status_of_outcome (outcome_of finished answer)

-- the job was done, and the status is that of the result
abbrev pub EndsJob : Job → Devices → ExitCode → Type 0
EndsJob (Run workers fronts explain) d code = EndsFilter (running fronts workers) finished d code
EndsJob (Check explain) d code = EndsFilter (judging explain) Judged d code
EndsJob (Make product explain) d code = EndsFilter (making product) finished d code
EndsJob (Live explain) d code = EndsLive explain d code
