use Rattle.smx_model.proofs.Common.{◌≡◌, ◌++◌, [], get_or}
use Rattle.std.proofs.Common.{drop}
use Rattle.smx_streams.specs.HungRows.{hung_from}
use Rattle.smx_streams.proofs.records.Records.add_hungs.Given as goal

abbrev pub invariant-loop-minor : goal.invariant-loop-minor
invariant-loop-minor l = l.hungs.items ++ hung_from l.driver l.minor (drop l.minor (get_or l.self.hungs l.driver []))
    ≡ l.initial.hungs.items ++ hung_from l.driver 0 (get_or l.self.hungs l.driver [])
