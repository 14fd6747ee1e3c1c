use Rattle.smx_model.proofs.Common.{◌≡◌, take}
use Rattle.smx_addresses.proofs.bindings.Bindings.copy.Given as goal

abbrev pub invariant-loop-binding : goal.invariant-loop-binding
invariant-loop-binding l = l.copy ≡ take l.binding-index l.binding-items
