use Rattle.std.proofs.Common.{arith, sym}
use Rattle.smx_queues.specs.PlaceLists.{places_of}
use Rattle.smx_queues.proofs.FlowLemmas.{leaving_skips, leaving_step, take_is}
use Rattle.smx_queues.proofs.PlaceLemmas.{numbered}
use Rattle.smx_queues.proofs.flow_table.LeavingMessages.next.Goals as goal

pub take-requires : goal.take-requires
take-requires c = c.loop-self.invariant.flow.there _ (omega (arith, c.loop-self.invariant.flow.many))

pub invariant_of-self-in-Some : goal.invariant_of-self-in-Some
invariant_of-self-in-Some c = rw c.in-Some.ensures.left
    (take_is _ _ c.loop-self.invariant.flow _ _ c.at.ensures.place 0 _ (sym c.in-Some.ensures.taken)).sound

pub returns-in-Some : goal.returns-in-Some
returns-in-Some c = rw c.in-Some.ensures.left
    (leaving_step _ _ c.loop-self.invariant.flow _ _ c.at.ensures.place _ _ c.loop-self.invariant.rest
    c.in-Some.ensures.taken)

pub loop-self-preserved : goal.loop-self-preserved
loop-self-preserved c =
    let at = numbered (places_of c.loop-self.self-inside.places) c.loop-self.self-inside.next (omega arith) in
    rw c.in_default.ensures.none (record {
      flow = c.loop-self.invariant.flow;
      rest = leaving_skips _ _ c.loop-self.invariant.flow _ _ at.1 _ c.loop-self.invariant.rest
          c.in_default.ensures.taken;
    })
