use Rattle.std.proofs.Common.{◌∙◌, ap, sym}
use Rattle.std.specs.Prelude.{option_copied}
use Rattle.smx_config.proofs.PlaceNumberLemmas.{place_of_number}
use Rattle.smx_config.proofs.WayLemmas.{next_number, way_of_first}
use Rattle.smx_config.proofs.hops.next_of_first.Goals as goal

pub returns-clause-number : goal.returns-clause-number
returns-clause-number c =
    let here = place_of_number c.args.tables.now.drivers c.args.n c.requires.number in
    next_number c.args.tables.now.drivers c.args.tables.now.configuration here.0 c.way_from.result
    (way_of_first c.args.tables.now.drivers c.args.tables.now.configuration here.0 c.in_ok-message.message.now
    c.way_from.result (sym ((rw (c.queues.ensures.drivers, c.queues.ensures.flow) at c.front_at.ensures) here.0 here.1) ∙ ap option_copied c.in_ok-message.was)
    (c.way_from.ensures.value here.0 here.1))
