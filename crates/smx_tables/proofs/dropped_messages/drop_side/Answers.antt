use Rattle.smx_tables.proofs.Common.{ap, ◌&&◌, false, sym, ◌∙◌, Bool, Place, same_place, is_flushed_at}
use Rattle.smx_tables.proofs.BelowLemmas.{empties_alike, empties_none}
use Rattle.smx_tables.proofs.DropLemmas.{all_stay}
use Rattle.smx_tables.proofs.dropped_messages.drop_side.Goals as goal

pub returns-else-is_side : goal.returns-else-is_side
returns-else-is_side c =
    let here : Place = record { stream = c.args.stream; side = c.args.side } in
    empties_alike (λ p. false) (is_flushed_at c.args.stream c.args.sides c.args.side) _ _ _ _
    (λ p. ap (λ (b : Bool). b && same_place p here) (sym c.is_side.ensures ∙ c.if-is_side.false))
    (empties_none (λ p. false) c.args.queues.now c.args.dropped.now (all_stay c.args.queues.now.flow)
    (all_stay c.args.queues.now.fulls) c.requires)
