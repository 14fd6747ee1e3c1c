use Rattle.smx_model.proofs.Common.{◌+◌, ap, subst, ◌∙◌}
use Rattle.smx_streams.specs.StreamTables.{StreamTable, HasHolds, exists, number_at}
use Rattle.smx_streams.specs.TableFields.{table_of}
use Rattle.smx_streams.proofs.NameLemmas.{used_exists}
use Rattle.smx_streams.proofs.RecordLemmas.{counts_some}
use Rattle.smx_streams.proofs.HungLemmas.{holds_changed, hung_still}
use Rattle.smx_streams.proofs.streams.Streams.hold.Goals as goal

pub hold-requires-clause-there : goal.hold-requires-clause-there
hold-requires-clause-there c = counts_some _
    (used_exists (table_of c.self.inside) c.args.stream (number_at c.self.inside.records.opens c.args.stream)
    (c.self.invariant.named c.args.stream) ∙ ap (λ (t : StreamTable). exists t c.args.stream) c.self.view_is
    ∙ c.requires.there)

pub returns-clause-rest : goal.returns-clause-rest
returns-clause-rest c = subst
    (λ (t : StreamTable). HasHolds t c.args.stream (number_at t.holds c.args.stream + 1)
    (table_of (record c.self.inside { records = c.hold.new.self }))) c.self.view_is
    (holds_changed c.self.inside c.hold.new.self c.args.stream _ c.hold.ensures.set c.self.invariant)

pub returns-clause-hungs : goal.returns-clause-hungs
returns-clause-hungs c = cc (hung_still c.self.inside.records c.hold.new.self c.args.stream _ _ c.hold.ensures.set)
