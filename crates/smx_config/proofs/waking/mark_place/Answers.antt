use Rattle.std.proofs.Common.{arith}
use Rattle.smx_config.proofs.PlaceNumberLemmas.{none_found}
use Rattle.smx_config.proofs.RunMarkLemmas.{one_marked}
use Rattle.smx_config.proofs.waking.mark_place.Goals as goal

pub returns-in-Some : goal.returns-in-Some
returns-in-Some c = one_marked c.args.tables.now.drivers c.args.tables.now.configuration.flow c.args.place c.in-Some.n
    c.args.run.now c.set.new.self (rw c.queues.ensures.drivers at c.in-Some.ensures.found) c.set.ensures.here c.set.ensures.kept c.set.ensures.count

pub returns-in_default : goal.returns-in_default
returns-in_default c = grind (arith, none_found)
