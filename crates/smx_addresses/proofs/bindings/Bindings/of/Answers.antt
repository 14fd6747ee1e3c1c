use Rattle.smx_model.proofs.Common.{sym, ◌∙◌}
use Rattle.smx_addresses.proofs.BindingLemmas.{find_stream}
use Rattle.smx_addresses.proofs.bindings.Bindings.of.Goals as goal

pub returns-in_err-addr : goal.returns-in_err-addr
returns-in_err-addr c =
    c.from_residual.ensures
    ∙ sym (find_stream _ _ _ c.args.stream.driver c.args.stream.minor _ c.self.view_is c.self.invariant
    (rw c.key_of.ensures at c.in_err-addr.ensures.value))

pub returns : goal.returns
returns c = sym (find_stream _ _ _ c.args.stream.driver c.args.stream.minor _ c.self.view_is c.self.invariant
    (rw c.key_of.ensures at c.in_ok-addr.ensures.value))
