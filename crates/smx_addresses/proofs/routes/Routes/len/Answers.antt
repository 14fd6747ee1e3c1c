use Rattle.smx_model.proofs.Common.{route_before, arith}
use Rattle.smx_addresses.specs.TableFields.{route_of}
use Rattle.smx_addresses.proofs.ListedTableLemmas.{length_in_order}
use Rattle.smx_addresses.proofs.routes.Routes.len.Goals as goal

pub returns : goal.returns
returns c = grind (arith, length_in_order route_before route_of c.self.inside.ids.entries)
