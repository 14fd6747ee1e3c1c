use Rattle.smx_model.proofs.Common.{arith}
use Rattle.smx_links.proofs.BitLemmas.{joined_word, joined_words}
use Rattle.smx_links.proofs.masks.join.Goals as goal

pub returns-clause-joined : goal.returns-clause-joined
returns-clause-joined c = grind (arith, joined_words, joined_word)
