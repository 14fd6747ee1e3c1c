use Rattle.std.proofs.Common.{Option, ℕ, subst}
use Rattle.smx_config.specs.Ways.{IsWay}
use Rattle.smx_config.proofs.PlaceNumberLemmas.{place_of_number}
use Rattle.smx_config.proofs.hops.way_from.Goals as goal

pub returns-clause-hops : goal.returns-clause-hops
returns-clause-hops c =
    let drivers = c.args.tables.now.drivers in
    let now = c.args.tables.now.configuration in
    let here = place_of_number drivers c.args.n c.requires.number in
    c.note_hop.ensures drivers now here.0 c.requires.hops here.1
    (subst (λ (o : Option ℕ). IsWay drivers now here.0 c.args.addr o) c.in_ok-to.was (c.look_up.ensures here.0 here.1))
