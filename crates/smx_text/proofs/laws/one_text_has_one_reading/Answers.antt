use Rattle.smx_text.specs.ProgramsText.{programs_grammar}
use Rattle.smx_text.proofs.ProgramsGrammarLemmas.{versions}
use Rattle.smx_text.proofs.VersionLemmas.{one_reading_of_all}
use Rattle.smx_text.proofs.laws.one_text_has_one_reading.Goals as goal

pub returns : goal.returns
returns c = one_reading_of_all programs_grammar versions
