use Rattle.std.proofs.Common.{length}
use Rattle.smx_words.proofs.ReplyLemmas.{AreThen}
use Rattle.smx_words.proofs.reading.reply.serials.Given as goal

abbrev pub invariant-words : goal.invariant-words
invariant-words l = AreThen l.line l.serials l.rest

abbrev pub decreases-words : goal.decreases-words
decreases-words l = length l.rest
