use Rattle.smx_model.proofs.Common.{refl, ap, subst, ◌∙◌}
use Rattle.smx_streams.specs.StreamTables.{StreamTable, HasHungUp, exists, number_at}
use Rattle.smx_streams.specs.TableFields.{table_of}
use Rattle.smx_streams.proofs.HungLemmas.{hung_now, same_number}
use Rattle.smx_streams.proofs.NameLemmas.{used_exists}
use Rattle.smx_streams.proofs.RecordLemmas.{counts_some}
use Rattle.smx_streams.proofs.streams.Streams.hang.Goals as goal

pub hang-requires : goal.hang-requires
hang-requires c = counts_some _
    (used_exists (table_of c.self.inside) c.args.stream (number_at c.self.inside.records.opens c.args.stream)
    (c.self.invariant.named c.args.stream) ∙ ap (λ (t : StreamTable). exists t c.args.stream) c.self.view_is
    ∙ c.requires)

pub returns : goal.returns
returns c = subst
    (λ (t : StreamTable). HasHungUp t c.args.stream
    (table_of
    (record { alloc = c.self.inside.alloc; descriptors = c.self.inside.descriptors; records = c.hang.new.self })))
    c.self.view_is (record {
      minors = c.hang.ensures.set.minors;
      fds = refl;
      holds = λ x. c.hang.ensures.set.holds_now x ∙ same_number c.self.inside.records.holds x c.args.stream _ refl;
      hungs = hung_now c.self.inside.records c.hang.new.self c.args.stream _ _ c.hang.ensures.set;
    })
