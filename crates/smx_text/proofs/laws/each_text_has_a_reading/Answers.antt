use Rattle.smx_text.specs.ProgramsText.{programs_grammar}
use Rattle.smx_text.specs.TranscriptText.{transcript_grammar}
use Rattle.smx_text.proofs.ProgramsGrammarLemmas.{programs_have_reading, versions}
use Rattle.smx_text.proofs.TranscriptGrammarLemmas.{transcripts_have_reading, versions as transcript_versions}
use Rattle.smx_text.proofs.VersionLemmas.{has_reading_of_all}
use Rattle.smx_text.proofs.laws.each_text_has_a_reading.Goals as goal

pub returns-clause-programs : goal.returns-clause-programs
returns-clause-programs c = λ bytes.
    has_reading_of_all programs_grammar versions bytes (λ version. programs_have_reading version bytes)

pub returns-clause-transcripts : goal.returns-clause-transcripts
returns-clause-transcripts c = λ bytes.
    has_reading_of_all transcript_grammar transcript_versions bytes (λ version. transcripts_have_reading version bytes)
