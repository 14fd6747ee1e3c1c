use Rattle.smx_model.proofs.Common.{subst, refl, ◌∙◌, arith}
use Rattle.smx_streams.specs.StreamTables.{StreamTable, HasOneMore}
use Rattle.smx_streams.specs.TableFields.{table_of}
use Rattle.smx_streams.proofs.NameLemmas.{named_any, names_after_put, names_few, names_some}
use Rattle.smx_streams.proofs.HungLemmas.{hung_same, same_number}
use Rattle.smx_streams.proofs.streams.Streams.open.Goals as goal

pub returns-in_err-make_room-clause-in_place : goal.returns-in_err-make_room-clause-in_place
returns-in_err-make_room-clause-in_place c = grind (arith, named_any c.args.stream c.args.process)

pub open-requires-clause-few : goal.open-requires-clause-few
open-requires-clause-few c = grind (arith, names_few, c.self.invariant.named c.args.stream)

pub returns-in_err-open-clause-in_place : goal.returns-in_err-open-clause-in_place
returns-in_err-open-clause-in_place c = grind (arith, names_some, c.self.invariant.named c.args.stream)

pub invariant_of-self-2 : goal.invariant_of-self-2
invariant_of-self-2 c = grind (arith, names_after_put c.self.inside.records.opens)

pub returns-clause-ok : goal.returns-clause-ok
returns-clause-ok c = subst
    (λ (t : StreamTable). HasOneMore t c.args.process c.args.fd c.args.stream
    (table_of (record { alloc = c.self.inside.alloc; descriptors = c.put.new.self; records = c.open.new.self })))
    c.self.view_is (record {
      minors = c.in_ok-open.ensures.ok.minors;
      fds = rw (c.put.ensures.fds, c.in_ok-make_room.ensures.fds) refl;
      holds = λ x. c.in_ok-open.ensures.ok.holds_now x ∙ same_number c.self.inside.records.holds x c.args.stream _ refl;
      hungs = hung_same c.self.inside.records c.open.new.self c.args.stream _ _
          c.in_ok-open.ensures.ok;
    })
