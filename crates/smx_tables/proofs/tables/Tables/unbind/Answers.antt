use Rattle.smx_tables.proofs.Common.{◌&&◌, Bool, eqb, refl, sym, ap, ◌∙◌, Machine}
use Rattle.smx_types.specs.declared.link.Binding.{Binding}
use Rattle.smx_streams.proofs.ListLemmas.{none_goes}
use Rattle.smx_tables.proofs.DoneLemmas.{unbind_does, unbind_refused}
use Rattle.smx_tables.proofs.LookupLemmas.{any_found, none_found}
use Rattle.smx_tables.proofs.tables.Tables.unbind.Goals as goal

pub returns-in_default-clause-refines : goal.returns-in_default-clause-refines
returns-in_default-clause-refines c =
    let bound : Binding → Bool = λ b. eqb b.driver c.in_ok-stream.stream.driver
    && eqb b.minor c.in_ok-stream.stream.minor in
    let binds = c.self.inside.lists.binds in (
      rw (c.unbind.ensures.rest ∙ none_goes bound binds (sym c.in_default.ensures.binding)) c.self.view_is,
      unbind_refused c.args.self.now.drivers c.args.self.now.configuration c.args.process c.args.fd
          c.in_ok-stream.stream (sym c.mux_stream.ensures ∙ c.in_ok-stream.was)
          (rw (← c.self.view_is) (none_found bound binds (sym c.in_default.ensures.binding))),
    )

pub returns-clause-refines : goal.returns-clause-refines
returns-clause-refines c =
    let bound : Binding → Bool = λ b. eqb b.driver c.in_ok-stream.stream.driver
    && eqb b.minor c.in_ok-stream.stream.minor in
    let binds = c.self.inside.lists.binds in (
      ap (λ (m : Machine). m.drivers) c.self.view_is,
      unbind_does c.args.self.now.drivers c.args.self.now.configuration c.args.process c.args.fd c.in_ok-stream.stream _
          _ c.requires.swept
          (sym c.mux_stream.ensures ∙ c.in_ok-stream.was)
          (rw (← c.self.view_is) (any_found bound binds _ (sym c.in-Some.ensures.binding)))
          (rw (c.unbind.ensures.rest, ← c.self.view_is) refl) c.done.ensures,
    )
