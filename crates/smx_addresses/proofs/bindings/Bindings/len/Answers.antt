use Rattle.smx_model.proofs.Common.{bind_before, arith}
use Rattle.smx_addresses.specs.TableFields.{binding_of}
use Rattle.smx_addresses.proofs.ListedTableLemmas.{length_in_order}
use Rattle.smx_addresses.proofs.bindings.Bindings.len.Goals as goal

pub returns : goal.returns
returns c = grind (arith, length_in_order bind_before binding_of c.self.inside.minors.entries)
