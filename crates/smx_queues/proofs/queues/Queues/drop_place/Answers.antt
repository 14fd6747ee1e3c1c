use Rattle.std.proofs.Common.{ap, ◌∙◌}
use Rattle.smx_queues.specs.QueueTable.{QueueTable}
use Rattle.smx_queues.proofs.StoreLemmas.{dropped}
use Rattle.smx_queues.proofs.queues.Queues.drop_place.Goals as goal

pub invariant_of-self : goal.invariant_of-self
invariant_of-self c = (dropped _ _ c.self.invariant _ _ (c.has_place.ensures.0 c.if-has_place.true)
    (ap (λ (t : QueueTable). t.queues) c.self.view_is ∙ c.clear.ensures.cleared) _ c.index_mut.ensures.value).sound

pub returns-then-has_place-clause-gone : goal.returns-then-has_place-clause-gone
returns-then-has_place-clause-gone c = (dropped _ _ c.self.invariant _ _ (c.has_place.ensures.0 c.if-has_place.true)
    (ap (λ (t : QueueTable). t.queues) c.self.view_is ∙ c.clear.ensures.cleared) _ c.index_mut.ensures.value).is
