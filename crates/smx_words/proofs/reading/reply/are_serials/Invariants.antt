use Rattle.std.proofs.Common.{ℕ, List, length}
use Rattle.smx_words.proofs.ReplyLemmas.{AreThen}
use Rattle.smx_words.proofs.reading.reply.are_serials.Given as goal

abbrev pub invariant-words : goal.invariant-words
invariant-words l = (before : List ℕ) × AreThen l.line before l.rest

abbrev pub decreases-words : goal.decreases-words
decreases-words l = length l.rest
