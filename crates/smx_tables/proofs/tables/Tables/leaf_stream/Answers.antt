use Rattle.smx_tables.proofs.Common.{sym, ap, ◌∙◌, arith, is_mux, Machine}
use Rattle.smx_tables.proofs.KnownLemmas.{unknown_is_not}
use Rattle.smx_tables.proofs.AcceptedLemmas.{not_refused}
use Rattle.smx_tables.proofs.LookupLemmas.{no_leaf}
use Rattle.smx_tables.proofs.tables.Tables.leaf_stream.Goals as goal

pub returns-then-minor-from : goal.returns-then-minor-from
returns-then-minor-from c = no_leaf c.args.self.now.drivers c.args.self.now.configuration c.args.name.now
    c.in_ok-driver.driver c.args.minor (sym c.driver_of.ensures.found ∙ c.in_ok-driver.was)
    (ap (λ (m : Machine). is_mux m.drivers c.in_ok-driver.driver) (sym c.self.view_is)
    ∙ rw (← c.deref.ensures.value) (sym c.is_mux.ensures ∙ not_refused _ _ (sym c.refuse.ensures ∙ c.in_ok-refuse.was)))
    (unknown_is_not c.args.self.now.drivers c.args.self.now.configuration
    (record { driver = c.in_ok-driver.driver; minor = c.args.minor }) c.requires.known
    (omega (arith, c.minors_of.ensures)))
