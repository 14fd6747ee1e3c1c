use Rattle.smx_words.specs.Spelling.{side_word}
use Rattle.smx_words.specs.Spellable.{FitsAlways}
use Rattle.smx_words.proofs.CutLemmas.{no_field}
use Rattle.smx_words.proofs.DecidedWordLemmas.{stream_side}
use Rattle.smx_words.proofs.WordLemmas.{word_free}
use Rattle.smx_words.proofs.reading.word.first_side.Goals as goal

pub returns-in_err-side : goal.returns-in_err-side
returns-in_err-side c =
    rw c.from_residual-in_err-side.ensures (no_field FitsAlways side_word (word_free stream_side)
    c.args.text.now c.in_ok-word.word.now c.in_ok-word.rest.now
    c.in_ok-word.ensures.0 c.in_ok-word.ensures.1 c.in_err-side.ensures)
