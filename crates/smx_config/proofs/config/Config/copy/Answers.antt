use Rattle.std.proofs.lemmas.List.Elements.{same_from_all_zip}
use Rattle.smx_config.proofs.WayLemmas.{hops_copied}
use Rattle.smx_config.proofs.config.Config.copy.Goals as goal

pub invariant_of-result : goal.invariant_of-result
invariant_of-result c = record {
  kept = rw c.in_ok-copy.ensures c.self.invariant.kept;
  filled = rw c.in_ok-copy.ensures c.self.invariant.filled;
  marks = rw (c.in_ok-copy.ensures, c.in_ok-copy_marks.ensures) c.self.invariant.marks;
  hops = rw c.in_ok-copy.ensures (hops_copied c.self.inside.tables.drivers c.self.inside.tables.configuration
      c.self.inside.hops c.in_ok-clone.field-0
      (same_from_all_zip _ _ _ c.in_ok-clone.ensures.cases.0.0 (λ x y same. same)) c.in_ok-clone.ensures.cases.1
      c.self.invariant.hops);
  none = rw c.in_ok-copy_marks.ensures c.self.invariant.none;
}
