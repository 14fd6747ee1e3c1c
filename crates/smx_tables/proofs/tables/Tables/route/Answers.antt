use Rattle.smx_tables.proofs.Common.{refl, sym, ap, ◌∙◌, Machine}
use Rattle.smx_tables.proofs.DoneLemmas.{route_does}
use Rattle.smx_tables.proofs.LookupLemmas.{is_there}
use Rattle.smx_tables.proofs.tables.Tables.route.Goals as goal

pub returns : goal.returns
returns c = (
  ap (λ (m : Machine). m.drivers) c.self.view_is,
  route_does c.args.self.now.drivers c.args.self.now.configuration c.args.process c.args.fd c.args.addr c.args.id
      c.in_ok-stream.stream _ _ c.requires.swept
      (sym c.mux_stream.ensures ∙ c.in_ok-stream.was)
      (sym c.has_link.ensures ∙ is_there _ _ (sym c.refuse.ensures ∙ c.in_ok-refuse.was))
      (rw (c.in_ok-route.ensures.ok, ← c.self.view_is) refl) c.done.ensures,
)
