use Rattle.smx_words.proofs.Common.{reply_verb_word, FitsAlways}
use Rattle.smx_words.proofs.CutLemmas.{no_field}
use Rattle.smx_words.proofs.WordLemmas.{reply_verb_free}
use Rattle.smx_words.proofs.reading.verb.first_reply_verb.Goals as goal

pub returns-in_err-verb : goal.returns-in_err-verb
returns-in_err-verb c =
    rw c.from_residual-in_err-verb.ensures (no_field FitsAlways reply_verb_word reply_verb_free c.args.text.now c.in_ok-word.word.now c.in_ok-word.rest.now
    c.in_ok-word.ensures.0 c.in_ok-word.ensures.1 c.in_err-verb.ensures)
