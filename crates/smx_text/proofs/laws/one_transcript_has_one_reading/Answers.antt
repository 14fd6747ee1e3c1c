use Rattle.smx_text.specs.TranscriptText.{transcript_grammar}
use Rattle.smx_text.proofs.TranscriptGrammarLemmas.{versions}
use Rattle.smx_text.proofs.VersionLemmas.{one_reading_of_all}
use Rattle.smx_text.proofs.laws.one_transcript_has_one_reading.Goals as goal

pub returns : goal.returns
returns c = one_reading_of_all transcript_grammar versions
