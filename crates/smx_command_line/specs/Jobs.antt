-- The jobs that can be done.
use Rattle.std.specs.Prelude.{◌≤◌}
use Rattle.smx_run.specs.declared.run.TheConstants.{MAX_WORKERS}
use Rattle.smx_command_line.specs.declared.jobs.Job.{Job}
use Rattle.smx_command_line.specs.declared.jobs.Job.TheVariants.{Run, Check, Make, Live}

-- a run has at least one worker and at most `MAX_WORKERS`; the other jobs can always be done
abbrev pub CanRun : Job → Type 0
CanRun (Run workers fronts explain) = (1 ≤ workers) × (workers ≤ MAX_WORKERS)
CanRun (Check explain) = Unit {0}
CanRun (Make product explain) = Unit {0}
CanRun (Live explain) = Unit {0}
