use Rattle.smx_words.specs.Spelling.{kind_word}
use Rattle.smx_words.specs.Spellable.{FitsAlways}
use Rattle.smx_words.proofs.CutLemmas.{no_field}
use Rattle.smx_words.proofs.DecidedWordLemmas.{driver_kind}
use Rattle.smx_words.proofs.WordLemmas.{word_free}
use Rattle.smx_words.proofs.reading.word.first_kind.Goals as goal

pub returns-in_err-kind : goal.returns-in_err-kind
returns-in_err-kind c =
    rw c.from_residual-in_err-kind.ensures (no_field FitsAlways kind_word (word_free driver_kind)
    c.args.text.now c.in_ok-word.word.now c.in_ok-word.rest.now
    c.in_ok-word.ensures.0 c.in_ok-word.ensures.1 c.in_err-kind.ensures)
