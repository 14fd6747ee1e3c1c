use Rattle.std.proofs.Common.{refl}
use Rattle.smx_shared.proofs.RecordLemmas.{none_yet}
use Rattle.smx_shared.proofs.system.System.begin.Goals as goal

pub invariant_of-result : goal.invariant_of-result
invariant_of-result g c =
    let r = c.requires in
    none_yet c.args.config c.args.config.drivers c.args.limit
    (g.K.EntrySink.entries c.args.sink) r.unused r.limited (refl, r.valid_drivers) r.fresh
