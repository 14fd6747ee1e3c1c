use Rattle.smx_model.proofs.Common.{None, sym, ◌∙◌}
use Rattle.smx_streams.proofs.GridLemmas.{has_driver, has_minor, key_set, lengths_set}
use Rattle.smx_streams.proofs.RecordLemmas.{counts_none, counts_some, put_back_none, put_back_some}
use Rattle.smx_streams.proofs.records.put_back.Goals as goal

pub returns-then-is_used : goal.returns-then-is_used
returns-then-is_used c = put_back_some c.args.drivers.now.items c.args.records.now c.args.key c.args.changed
    c.set_record.new.records c.requires.whole c.requires.there
    (counts_some _ (sym c.is_used.ensures ∙ c.if-is_used.true)) c.set_record.ensures

pub returns-else-is_used : goal.returns-else-is_used
returns-else-is_used c =
    let none = counts_none c.args.changed.opens c.args.changed.holds (sym c.is_used.ensures ∙ c.if-is_used.false) in
    put_back_none c.args.drivers.now.items c.args.records.now c.args.key c.args.changed c.set_cell.new.rows.items
    c.try_remove-gone.new.self c.requires.whole c.requires.there none.0 none.1 c.try_remove-gone.ensures.updates
    (λ x. rw c.set_cell.ensures
    (key_set c.args.drivers.now.items c.args.changed.stream None x
    (has_driver c.args.drivers.now.items c.args.changed.stream c.args.key c.requires.there)
    (has_minor c.args.drivers.now.items c.args.changed.stream c.args.key c.requires.there)))
    (rw c.set_cell.ensures (lengths_set c.args.drivers.now.items c.args.changed.stream None))
