use Rattle.std.proofs.Common.{ap, length, length-append, map, arith}
use Rattle.std.proofs.lemmas.List.{length-map}
use Rattle.smx_types.specs.declared.message.Message.{Message}
use Rattle.smx_model.specs.Queues.{queue}
use Rattle.smx_queues.specs.FlowTables.{FlowLists}
use Rattle.smx_tables.proofs.DropLemmas.{dropped_more, place_and_rest}
use Rattle.smx_tables.proofs.dropped_messages.drop_at.Goals as goal

pub drop_at-requires : goal.drop_at-requires
drop_at-requires c = omega (arith, c.requires, place_and_rest c.args.queues.now.flow c.args.place)

pub returns : goal.returns
returns c =
    let flow = ap (λ (t : FlowLists). t.flow) c.drop_at.ensures.gone in
    let gone = queue c.args.queues.now.flow c.args.place in
    let serials = map (λ (m : Message). m.serial) gone in
    record {
      flow = flow;
      fulls = ap (λ (t : FlowLists). t.fulls) c.drop_at.ensures.gone;
      drivers = ap (λ (t : FlowLists). t.drivers) c.drop_at.ensures.gone;
      dropped = λ old h. dropped_more old c.args.queues.now.flow c.drop_at.new.self.flow c.args.place
          c.args.dropped.now.items c.drop_at.new.dropped.items flow c.drop_at.ensures.serials h;
      room = omega (
        arith,
        c.requires,
        place_and_rest c.args.queues.now.flow c.args.place,
        ap length c.drop_at.ensures.serials,
        length-append c.args.dropped.now.items serials,
        length-map gone (λ (m : Message). m.serial),
        ap length flow,
        c.drop_at.ensures.capacity,
      );
    }
