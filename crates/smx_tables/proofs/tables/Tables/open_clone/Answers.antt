use Rattle.smx_tables.proofs.Common.{refl, sym, ap, ◌∙◌, Machine}
use Rattle.std.proofs.lemmas.Result.{err_from_is_err_and}
use Rattle.smx_streams.specs.StreamTables.{clone_answer}
use Rattle.smx_tables.proofs.DescriptorLemmas.{agrees_err, agrees_ok, clone_agrees, refused_by}
use Rattle.smx_tables.proofs.TablesLemmas.{streams_over, tells_seen}
use Rattle.smx_tables.proofs.tables.Tables.open_clone.Goals as goal

pub returns-in_err-opened : goal.returns-in_err-opened
returns-in_err-opened c =
    let p = err_from_is_err_and c.from_residual-in_err-opened.result c.from_residual-in_err-opened.ensures.1 in
    let old = c.args.self.now in
    let t = c.self.inside.lists.streams in
    let agrees = clone_agrees old.drivers old.configuration t c.args.process c.in_ok-driver.driver c.args.name.now
    (streams_over c.self.inside old c.self.view_is c.self.invariant)
    (tells_seen c.self.inside old c.self.view_is c.self.invariant c.requires) (rw (← c.self.view_is) refl)
    (sym c.driver_of.ensures.found ∙ c.in_ok-driver.was) c.in_ok-driver.ensures.in_range in
    rw (p.1, p.2) (refused_by old _ _ _ (rw c.in_err-opened.ensures.unchanged c.self.view_is)
    (agrees_err old.configuration c.args.process (clone_answer t c.args.process c.in_ok-driver.driver) _ _ agrees
    c.in_err-opened.ensures.err))

pub returns : goal.returns
returns c =
    let old = c.args.self.now in
    let t = c.self.inside.lists.streams in
    let agrees = clone_agrees old.drivers old.configuration t c.args.process c.in_ok-driver.driver c.args.name.now
    (streams_over c.self.inside old c.self.view_is c.self.invariant)
    (tells_seen c.self.inside old c.self.view_is c.self.invariant c.requires) (rw (← c.self.view_is) refl)
    (sym c.driver_of.ensures.found ∙ c.in_ok-driver.was) c.in_ok-driver.ensures.in_range in
    rw c.fd_reply.ensures (
      ap (λ (m : Machine). m.drivers) c.self.view_is,
      agrees_ok old.configuration c.args.process (clone_answer t c.args.process c.in_ok-driver.driver) _
          c.in_ok-opened.opened agrees c.in_ok-opened.ensures.ok.0
          ∙ rw (c.in_ok-opened.ensures.ok.1.fds, c.in_ok-opened.ensures.ok.1.hungs, ← c.self.view_is) refl,
    )
