use Rattle.smx_config.proofs.Common.{subst, ℕ, arith, IsMarkedWhere}
use Rattle.smx_config.proofs.RunMarkLemmas.{all_minors, asks_below}
use Rattle.smx_config.proofs.marks.mark_side.Goals as goal

pub returns : goal.returns
returns c = all_minors c.args.tables.now.drivers c.args.tables.now.configuration c.args.driver c.args.side c.args.addr
    c.minors_of-minor-end.result c.args.run.now c.loop-minor.run c.minors_of-minor-end.ensures
    (subst (λ (n : ℕ). IsMarkedWhere c.args.tables.now.drivers c.args.tables.now.configuration.flow
    (asks_below c.args.tables.now.configuration c.args.driver c.args.side c.args.addr n) c.args.run.now
    c.loop-minor.run) (omega arith) c.loop-minor.invariant)
