use Rattle.smx_model.proofs.Common.{◌≡◌, false, List, Some, sym, ap, subst, ◌∙◌, Binding, bind_before, with_inserted}
use Rattle.smx_addresses.specs.BindingLists.{is_taken}
use Rattle.smx_addresses.specs.TableFields.{bindings_of}
use Rattle.smx_addresses.proofs.BindingLemmas.{bound, bound_whole}
use Rattle.smx_addresses.proofs.ChangeLemmas.{Sets, sets_from}
use Rattle.smx_addresses.proofs.bindings.Bindings.bind.Goals as goal
use Rattle.smx_addresses.proofs.bindings.Bindings.bind.Goals.{After-unwrap}

-- in the old table, neither the address nor the stream is bound
free : (c : After-unwrap) → is_taken (bindings_of c.self.inside.minors.entries) c.args.stream c.args.addr ≡ false
free c = subst (λ (bs : List Binding). is_taken bs c.args.stream c.args.addr ≡ false) (sym c.self.view_is) c.requires

-- the minor is at the address
set : (c : After-unwrap) → Sets c.self.inside.minors.entries c.insert.new.self.entries
    (c.args.stream.driver, c.args.addr) (Some c.args.stream.minor)
set c = sets_from _ _ _ _ _ c.reserve.ensures.entries (rw c.unwrap.ensures at c.insert.ensures.updates).0

pub invariant_of-self-2 : goal.invariant_of-self-2
invariant_of-self-2 c =
    let x = (goal.at.invariant_of-self-2 c).After-unwrap in
    let t : Sets c.reserve-2.new.self.entries c.insert-2.new.self.entries (c.args.stream.driver, c.args.stream.minor)
    (Some c.args.addr) = (rw (c.unwrap-2.ensures, c.key_of.ensures) at c.insert-2.ensures.updates).0 in
    bound_whole _ _ _ _ _ _ _ c.self.invariant (free x) c.insert.ensures.unique (set x)
    (sets_from _ _ _ _ _ c.reserve-2.ensures.entries t)

pub returns-clause-ok : goal.returns-clause-ok
returns-clause-ok c =
    let x = (goal.at.returns-clause-ok c).After-unwrap in
    bound _ c.self.inside.addrs.entries _ c.self.inside.addrs.entries _ _ _ c.self.invariant (free x)
    c.insert.ensures.unique (set x)
    ∙ ap (λ (bs : List Binding). with_inserted bind_before bs
    (record { driver = c.args.stream.driver; addr = c.args.addr; minor = c.args.stream.minor })) c.self.view_is
