use Rattle.smx_tables.proofs.Common.{◌&&◌, Bool, eqb, refl, sym, ap, ◌∙◌, Machine}
use Rattle.smx_types.specs.declared.link.Route.{Route}
use Rattle.smx_streams.proofs.ListLemmas.{none_goes}
use Rattle.smx_tables.proofs.DoneLemmas.{unroute_does, unroute_refused}
use Rattle.smx_tables.proofs.LookupLemmas.{any_found, none_found}
use Rattle.smx_tables.proofs.tables.Tables.unroute.Goals as goal

pub returns-in_default-clause-refines : goal.returns-in_default-clause-refines
returns-in_default-clause-refines c =
    let routed : Route → Bool = λ r. eqb r.driver c.in_ok-stream.stream.driver && eqb r.addr c.args.addr in
    let routes = c.self.inside.lists.routes in (
      rw (c.unroute.ensures.rest ∙ none_goes routed routes (sym c.in_default.ensures.route)) c.self.view_is,
      unroute_refused c.args.self.now.drivers c.args.self.now.configuration c.args.process c.args.fd c.args.addr
          c.in_ok-stream.stream (sym c.mux_stream.ensures ∙ c.in_ok-stream.was)
          (rw (← c.self.view_is) (none_found routed routes (sym c.in_default.ensures.route))),
    )

pub returns-clause-refines : goal.returns-clause-refines
returns-clause-refines c =
    let routed : Route → Bool = λ r. eqb r.driver c.in_ok-stream.stream.driver && eqb r.addr c.args.addr in
    let routes = c.self.inside.lists.routes in (
      ap (λ (m : Machine). m.drivers) c.self.view_is,
      unroute_does c.args.self.now.drivers c.args.self.now.configuration c.args.process c.args.fd c.args.addr
          c.in_ok-stream.stream _ _ c.requires.swept
          (sym c.mux_stream.ensures ∙ c.in_ok-stream.was)
          (rw (← c.self.view_is) (any_found routed routes _ (sym c.in-Some.ensures.route)))
          (rw (c.unroute.ensures.rest, ← c.self.view_is) refl) c.done.ensures,
    )
