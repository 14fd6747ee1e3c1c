use Rattle.smx_model.proofs.Common.{◌≡◌, ◌++◌, map}
use Rattle.smx_addresses.specs.TableFields.{route_of}
use Rattle.smx_addresses.proofs.routes.Routes.list.Given as goal

abbrev pub invariant-loop-key : goal.invariant-loop-key
invariant-loop-key l = l.list.items ++ map route_of l.key-iterator ≡ map route_of l.initial.key-iterator
