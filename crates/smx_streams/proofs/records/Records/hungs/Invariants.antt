use Rattle.smx_model.proofs.Common.{◌≡◌, ◌++◌}
use Rattle.std.proofs.Common.{drop}
use Rattle.smx_streams.specs.HungRows.{hungs_from}
use Rattle.smx_streams.proofs.records.Records.hungs.Given as goal

abbrev pub invariant-loop-driver : goal.invariant-loop-driver
invariant-loop-driver l = l.hungs.items ++ hungs_from l.driver (drop l.driver l.self.hungs) ≡ hungs_from 0 l.self.hungs
