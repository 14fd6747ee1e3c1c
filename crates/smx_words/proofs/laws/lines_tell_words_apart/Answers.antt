use Rattle.smx_words.proofs.LineLemmas.{same_words}
use Rattle.smx_words.proofs.laws.lines_tell_words_apart.Goals as goal

pub returns : goal.returns
returns c = same_words
