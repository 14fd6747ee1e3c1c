use Rattle.std.proofs.Common.{sym, ◌∙◌, arith, append_assoc, ◌∷◌, [], true, false}
use Rattle.smx_queues.specs.PlaceLists.{places_of}
use Rattle.smx_queues.proofs.FlowLemmas.{full_step}
use Rattle.smx_queues.proofs.PlaceLemmas.{numbered}
use Rattle.smx_queues.proofs.flow_table.FlowTable.fulls.Goals as goal
use Rattle.smx_queues.proofs.flow_table.FlowTable.fulls.Goals.{then-is_full+in_ok-push, else-is_full}

pub is_full-requires : goal.is_full-requires
is_full-requires c = c.self.invariant.there _ (omega (arith, c.self.invariant.many))

pub loop-p-preserved : goal.loop-p-preserved
loop-p-preserved c = elim c.if-is_full.branch [
  | then-is_full+in_ok-push w ↦
      rw (w.fulls-is, w.in_ok-push.ensures.items) (append_assoc _ (w.at.result ∷ []) _ ∙ full_step _ _ c.self.invariant
      _ _ w.at.ensures.place _ _ true (sym c.is_full.ensures ∙ w.if-is_full.true) c.loop-p.invariant)
  | else-is_full w ↦
      let at = numbered (places_of c.self.inside.places) c.loop-p.p (omega arith) in
      rw w.fulls-is (full_step _ _ c.self.invariant at.0 _ at.1 _ _ false (sym c.is_full.ensures ∙ w.if-is_full.false)
      c.loop-p.invariant)
]
