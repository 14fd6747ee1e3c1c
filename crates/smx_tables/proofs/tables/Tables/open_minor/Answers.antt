use Rattle.smx_tables.proofs.Common.{◌≡◌, false, refl, sym, ◌∙◌, minors_of, is_below}
use Rattle.std.specs.Prelude.{nat_le}
use Rattle.std.proofs.lemmas.Result.{err_from_is_err_and}
use Rattle.smx_streams.specs.StreamTables.{minor_answer}
use Rattle.smx_tables.proofs.DescriptorLemmas.{agrees_err, minor_agrees, refused_by}
use Rattle.smx_tables.proofs.AcceptedLemmas.{not_refused}
use Rattle.smx_tables.proofs.TablesLemmas.{streams_over}
use Rattle.smx_tables.proofs.tables.Tables.open_minor.Goals as goal

pub returns-in_err-opened : goal.returns-in_err-opened
returns-in_err-opened c =
    let p = err_from_is_err_and c.from_residual-in_err-opened.result c.from_residual-in_err-opened.ensures.1 in
    let old = c.args.self.now in
    let t = c.self.inside.lists.streams in
    let n = c.in_ok-driver.driver in
    let few : nat_le (minors_of old.drivers n) c.args.minor
    ≡ false = rw (c.from.ensures, c.minors_of.ensures) at
    (not_refused _ _ (sym c.refuse.ensures ∙ c.in_ok-refuse.was)) in
    let free : is_below old.configuration.links (record { driver = n; minor = c.args.minor }) ≡ false =
    rw (← c.self.view_is) (sym c.is_below.ensures ∙ not_refused _ _ (sym c.refuse-2.ensures ∙ c.in_ok-refuse-2.was)) in
    let agrees = minor_agrees old.drivers old.configuration t c.args.process n c.args.minor c.args.name.now
    (streams_over c.self.inside old c.self.view_is c.self.invariant) (rw (← c.self.view_is) refl)
    (sym c.driver_of.ensures.found ∙ c.in_ok-driver.was) c.in_ok-driver.ensures.in_range few free in
    rw (p.1, p.2) (refused_by old _ _ _ (rw c.in_err-opened.ensures.unchanged c.self.view_is)
    (agrees_err old.configuration c.args.process (minor_answer t c.args.process n c.args.minor) _ _ agrees
    c.in_err-opened.ensures.err))
