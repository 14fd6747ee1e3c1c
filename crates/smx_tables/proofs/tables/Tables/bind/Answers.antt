use Rattle.smx_tables.proofs.Common.{refl, sym, ap, ◌∙◌, Machine}
use Rattle.smx_tables.proofs.DoneLemmas.{bind_does}
use Rattle.smx_tables.proofs.AcceptedLemmas.{not_refused}
use Rattle.smx_tables.proofs.tables.Tables.bind.Goals as goal

pub returns : goal.returns
returns c = (
  ap (λ (m : Machine). m.drivers) c.self.view_is,
  bind_does c.args.self.now.drivers c.args.self.now.configuration c.args.process c.args.fd c.args.addr
      c.in_ok-stream.stream _ _ c.requires.swept
      (sym c.mux_stream.ensures ∙ c.in_ok-stream.was)
      (rw (← c.self.view_is) (sym c.is_taken.ensures ∙ not_refused _ _ (sym c.refuse.ensures ∙ c.in_ok-refuse.was)))
      (rw (c.in_ok-bind.ensures.ok, ← c.self.view_is) refl) c.done.ensures,
)
