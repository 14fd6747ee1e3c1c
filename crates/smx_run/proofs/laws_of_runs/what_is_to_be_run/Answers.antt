use Rattle.std.proofs.Common.{[]}
use Rattle.smx_run.proofs.laws_of_runs.what_is_to_be_run.Goals as goal

pub returns-clause-not_again : goal.returns-clause-not_again
returns-clause-not_again c is = let first = (is []).1 in absurd cc

pub returns-clause-not_elsewhere : goal.returns-clause-not_elsewhere
returns-clause-not_elsewhere c is = let first = (is []).0 in absurd cc
