use Rattle.smx_trace.proofs.Common.{◌∙◌, ◌+◌, Some, ap, arith, eqb, subst, sym, MessageLine, FindsBySerial}
use Rattle.std.proofs.Common.{◌≡◌, ◌-◌, cond, drop, ℕ}
use Rattle.indexmap.specs.IndexMap.{get}
use Rattle.smx_trace.proofs.SerialLemmas.{found_more}
use Rattle.smx_trace.proofs.moves.index_of.Goals as goal

pub lines-preserved : goal.lines-preserved
lines-preserved c =
    let lines = c.args.lines.now in
    let one : c.lines.left ≡ (c.lines.left - 1) + 1 = omega (arith, c.lines-test.true) in
    let before : FindsBySerial (get eqb c.lines.index) lines (drop ((c.lines.left - 1) + 1) lines) =
    subst (λ (k : ℕ). FindsBySerial (get eqb c.lines.index) lines (drop k lines)) one c.lines.invariant.found in
    record {
      within = omega (arith, c.lines.invariant.within);
      found = found_more (get eqb c.lines.index) (get eqb c.insert.new.self) lines (c.lines.left - 1)
          c.index-lines-left.result
          (omega (arith, c.lines.invariant.within, c.lines-test.true)) c.index-lines-left.is
          (λ n. c.in_ok-insert.ensures.updates.0 n
          ∙ ap (λ (m : MessageLine). cond (eqb m.message.serial n) (Some (c.lines.left - 1)) (get eqb c.lines.index n))
          (sym c.index-lines-left.is)) before;
    }
