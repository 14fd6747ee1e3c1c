use Rattle.smx_config.proofs.Common.{◌∙◌, ap, sym, next_of}
use Rattle.smx_config.proofs.NextMoveLemmas.{none_if_not_some, unmarked}
use Rattle.smx_config.proofs.PlaceNumberLemmas.{place_of_number}
use Rattle.smx_config.proofs.settling.clear_if_empty.Goals as goal

pub returns-then-not-has_messages_at : goal.returns-then-not-has_messages_at
returns-then-not-has_messages_at c =
    let drivers = c.args.tables.now.drivers in
    let now = c.args.tables.now.configuration in
    let there = place_of_number drivers c.args.n c.requires.number in
    unmarked drivers now c.args.n there.0 c.args.marks.now c.clear.new.self c.requires.marks there.1
    (ap (next_of drivers now there.0)
    (sym (none_if_not_some _ (sym c.if-not-has_messages_at.true ∙ (rw (c.queues.ensures.drivers, c.queues.ensures.flow) at c.has_messages_at.ensures)
    there.0 there.1))))
    c.clear.ensures.gone c.clear.ensures.count
