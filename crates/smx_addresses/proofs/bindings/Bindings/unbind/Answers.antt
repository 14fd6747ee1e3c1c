use Rattle.smx_model.proofs.Common.{◌==◌, ◌&&◌, not, List, filter, sym, ap, ◌∙◌, Binding}
use Rattle.smx_addresses.proofs.BindingLemmas.{find_stream, not_bound, unbound, unbound_whole}
use Rattle.smx_addresses.proofs.bindings.Bindings.unbind.Goals as goal

pub returns-in_err-addr-clause-binding : goal.returns-in_err-addr-clause-binding
returns-in_err-addr-clause-binding c =
    c.from_residual.ensures
    ∙ sym (find_stream _ _ _ c.args.stream.driver c.args.stream.minor _ c.self.view_is c.self.invariant
    (rw c.key_of.ensures at c.in_err-addr.ensures.value))

pub returns-in_err-addr-clause-rest : goal.returns-in_err-addr-clause-rest
returns-in_err-addr-clause-rest c =
    sym (not_bound _ _ c.args.stream.driver c.args.stream.minor c.self.invariant
    (sym (rw c.key_of.ensures at c.in_err-addr.ensures.value)))
    ∙ ap (λ (bs : List Binding).
    filter (λ b. not ((b.driver == c.args.stream.driver) && (b.minor == c.args.stream.minor))) bs) c.self.view_is

pub invariant_of-self-2 : goal.invariant_of-self-2
invariant_of-self-2 c =
    unbound_whole _ _ _ _ c.args.stream.driver c.in_ok-addr.addr c.args.stream.minor c.self.invariant
    (sym (rw c.key_of.ensures at c.in_ok-addr.ensures.value))
    c.swap_remove-minor.ensures.unique c.swap_remove-minor.ensures.updates.0
    (rw c.key_of.ensures at c.swap_remove.ensures.updates).0

pub returns-clause-binding : goal.returns-clause-binding
returns-clause-binding c =
    sym (find_stream _ _ _ c.args.stream.driver c.args.stream.minor _ c.self.view_is c.self.invariant
    (rw c.key_of.ensures at c.in_ok-addr.ensures.value))

pub returns-clause-rest : goal.returns-clause-rest
returns-clause-rest c =
    unbound _ _ _ c.self.inside.addrs.entries c.args.stream.driver c.in_ok-addr.addr c.args.stream.minor
    c.self.invariant (sym (rw c.key_of.ensures at c.in_ok-addr.ensures.value))
    c.swap_remove-minor.ensures.unique c.swap_remove-minor.ensures.updates.0
    ∙ ap (λ (bs : List Binding).
    filter (λ b. not ((b.driver == c.args.stream.driver) && (b.minor == c.args.stream.minor))) bs) c.self.view_is
