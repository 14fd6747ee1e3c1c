use Rattle.smx_model.proofs.Common.{arith}
use Rattle.smx_links.proofs.BitLemmas.{is_set_past}
use Rattle.smx_links.proofs.masks.has_bit.Goals as goal

pub returns-then-b-ge-WORD_BITS : goal.returns-then-b-ge-WORD_BITS
returns-then-b-ge-WORD_BITS c = grind (arith, is_set_past, c.type_inv.words c.args.a)
