use Rattle.smx_tables.proofs.Common.{◌&&◌, same_stream, is_flushed_at}
use Rattle.smx_types.specs.declared.stream.Side.TheVariants as side
use Rattle.smx_model.specs.Commands.{is_side}
use Rattle.smx_tables.proofs.BelowLemmas.{empties_more}
use Rattle.smx_tables.proofs.DropLemmas.{on_both_sides}
use Rattle.smx_tables.proofs.dropped_messages.drop_sides.Goals as goal

pub returns : goal.returns
returns c =
    let named = is_flushed_at c.args.stream c.args.sides in
    empties_more (named side.Write) (named side.Read)
    (λ p. same_stream p.stream c.args.stream && is_side c.args.sides p.side) _ _ _ _ _ _
    (λ p. on_both_sides c.args.stream c.args.sides p.stream p.side) c.drop_side.ensures c.drop_side-2.ensures
