use Rattle.smx_model.proofs.Common.{sym, ap, ◌∙◌}
use Rattle.smx_streams.specs.StreamTables.{StreamTable, is_last}
use Rattle.smx_streams.specs.TableFields.{table_of}
use Rattle.smx_streams.proofs.WentLemmas.{last_is}
use Rattle.smx_streams.proofs.streams.Streams.is_last.Goals as goal

pub returns-in-Some : goal.returns-in-Some
returns-in-Some c = c.is_opened_once.ensures
    ∙ (last_is (table_of c.self.inside) c.in-Some.stream c.args.process c.args.fd _ c.self.invariant.listed.rise
    (sym c.in-Some.ensures) (c.self.invariant.named c.in-Some.stream)
    ∙ ap (λ (t : StreamTable). is_last t c.args.process c.args.fd) c.self.view_is)
