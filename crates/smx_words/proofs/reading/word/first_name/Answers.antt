use Rattle.smx_words.specs.Spellable.{FitsName}
use Rattle.smx_words.proofs.CutLemmas.{no_field}
use Rattle.smx_words.proofs.DecidedWordLemmas.{name}
use Rattle.smx_words.proofs.WordLemmas.{word_free, first_name_is}
use Rattle.smx_words.proofs.reading.word.first_name.Goals as goal

pub returns-in_err-name : goal.returns-in_err-name
returns-in_err-name c =
    rw c.from_residual-in_err-name.ensures (no_field FitsName (λ n. n) (word_free name) c.args.text.now c.in_ok-word.word.now c.in_ok-word.rest.now
    c.in_ok-word.ensures.0 c.in_ok-word.ensures.1 c.in_err-name.ensures)

pub returns : goal.returns
returns c =
    first_name_is c.args.text.now c.in_ok-word.word.now c.in_ok-word.rest.now c.in_ok-name.name
    c.in_ok-word.ensures.0 c.in_ok-word.ensures.1 c.in_ok-name.ensures.0 c.in_ok-name.ensures.1
