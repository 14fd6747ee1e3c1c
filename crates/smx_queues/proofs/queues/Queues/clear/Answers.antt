use Rattle.std.proofs.Common.{ap, refl, sym, ◌∙◌}
use Rattle.smx_queues.specs.QueueTable.{QueueTable}
use Rattle.smx_queues.proofs.QueueTableLemmas.{clearing_goes_on, none_first}
use Rattle.smx_queues.proofs.StoreLemmas.{unmarked}
use Rattle.smx_queues.proofs.queues.Queues.clear.Goals as goal

pub loop-message-init : goal.loop-message-init
loop-message-init c = record { there = c.requires; cleared = refl; spare = refl }

pub loop-message-preserved : goal.loop-message-preserved
loop-message-preserved c = clearing_goes_on _ _ _ _ _ c.loop-message.invariant c.in-Some.ensures.taken
    c.in-Some.ensures.left c.in-Some.ensures.spare

pub invariant_of-self : goal.invariant_of-self
invariant_of-self c = (unmarked _ _ c.self.invariant _ _ _ c.loop-message.invariant
    (ap (λ (t : QueueTable). t.queues) (c.self.view_is ∙ c.in_default.ensures.none))
    (none_first _ (sym c.in_default.ensures.taken)) _ c.index_mut.ensures.value).sound

pub returns-clause-cleared : goal.returns-clause-cleared
returns-clause-cleared c = (unmarked _ _ c.self.invariant _ _ _ c.loop-message.invariant
    (ap (λ (t : QueueTable). t.queues) (c.self.view_is ∙ c.in_default.ensures.none))
    (none_first _ (sym c.in_default.ensures.taken)) _ c.index_mut.ensures.value).is
