use Rattle.smx_config.proofs.Common.{ℕ, subst, sym, ◌∙◌, arith, IsMarkedWhere}
use Rattle.smx_config.proofs.RunMarkLemmas.{all_before, asks_before, next_lower, none_between, side_marked}
use Rattle.smx_config.proofs.marks.mark_reads.Goals as goal
use Rattle.smx_config.proofs.marks.mark_reads.Goals.{then-reaches, else-reaches}

pub loop-lower-preserved : goal.loop-lower-preserved
loop-lower-preserved c =
    let drivers = c.args.tables.now.drivers in
    let now = c.args.tables.now.configuration in
    let lower = c.loop-lower.lower in
    next_lower drivers now c.args.driver c.args.addr lower _ _ _ c.loop-lower.invariant (elim c.if-reaches.branch [
      | then-reaches w ↦
          rw w.run-is (side_marked drivers now c.args.driver c.args.addr lower _ _ w.mark_side.ensures)
      | else-reaches w ↦ rw w.run-is (none_between drivers now c.args.driver c.args.addr lower _
          (rw c.links-in-loop-lower.ensures at (sym c.reaches.ensures ∙ w.if-reaches.false)))
    ])

pub returns : goal.returns
returns c =
    all_before c.args.tables.now.drivers c.args.tables.now.configuration c.args.driver c.args.addr
    c.driver_count-lower-end.result c.args.run.now
    c.loop-lower.run (rw c.links.ensures at c.driver_count-lower-end.ensures.within)
    (subst (λ (n : ℕ). IsMarkedWhere c.args.tables.now.drivers c.args.tables.now.configuration.flow
    (asks_before c.args.tables.now.configuration c.args.driver c.args.addr n) c.args.run.now c.loop-lower.run)
    (omega arith) c.loop-lower.invariant)
