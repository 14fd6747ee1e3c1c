use Rattle.smx_links.proofs.IdLemmas.{earlier_below}
use Rattle.smx_links.proofs.LowerLemmas.{earlier_free}
use Rattle.smx_links.proofs.links.Links.copy.Goals as goal

pub push-requires-clause-new : goal.push-requires-clause-new
push-requires-clause-new c = rw (c.loop-link.invariant, c.as_slice-link-items.ensures)
    (earlier_below c.args.self.now c.loop-link.link-index _ c.requires.rise
    (rw c.as_slice-link-items.ensures at c.loop-link-test.true))

pub push-requires-clause-free : goal.push-requires-clause-free
push-requires-clause-free c = rw (c.loop-link.invariant, c.as_slice-link-items.ensures)
    (earlier_free c.args.self.now c.loop-link.link-index _ c.requires.lowers
    (rw c.as_slice-link-items.ensures at c.loop-link-test.true))
