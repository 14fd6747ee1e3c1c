use Rattle.smx_model.proofs.Common.{◌≡◌, ◌++◌, map}
use Rattle.smx_addresses.specs.TableFields.{binding_of}
use Rattle.smx_addresses.proofs.bindings.Bindings.list.Given as goal

abbrev pub invariant-loop-key : goal.invariant-loop-key
invariant-loop-key l = l.list.items ++ map binding_of l.key-iterator ≡ map binding_of l.initial.key-iterator
