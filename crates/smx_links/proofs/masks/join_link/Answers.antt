use Rattle.smx_model.proofs.Common.{rules, arith}
use Rattle.smx_links.proofs.MaskLemmas.{masks_known, masks_push}
use Rattle.smx_links.proofs.masks.join_link.Goals as goal

pub returns-then-not-has_bit-clause-masks : goal.returns-then-not-has_bit-clause-masks
returns-then-not-has_bit-clause-masks c = search (rules, masks_push)

pub returns-else-not-has_bit-clause-masks : goal.returns-else-not-has_bit-clause-masks
returns-else-not-has_bit-clause-masks c = grind (arith, masks_known)
