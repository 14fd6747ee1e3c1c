use Rattle.smx_addresses.proofs.BindingLemmas.{find_address}
use Rattle.smx_addresses.proofs.bindings.Bindings.at.Goals as goal

pub returns-in_err-minor : goal.returns-in_err-minor
returns-in_err-minor c =
    cc (find_address _ _ c.args.driver c.args.addr _ c.self.view_is c.self.invariant.unique
    c.in_err-minor.ensures.value)

pub returns : goal.returns
returns c =
    cc (find_address _ _ c.args.driver c.args.addr _ c.self.view_is c.self.invariant.unique c.in_ok-minor.ensures.value)
