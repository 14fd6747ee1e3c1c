use Rattle.smx_model.proofs.Common.{arith}
use Rattle.smx_links.proofs.UpperLemmas.{has_bits}
use Rattle.smx_links.proofs.masks.has_any_bit.Goals as goal

pub returns-in-Some : goal.returns-in-Some
returns-in-Some c = grind (arith, has_bits c.args.words.now c.args.a c.in-Some.word.now, c.type_inv.words c.args.a)
