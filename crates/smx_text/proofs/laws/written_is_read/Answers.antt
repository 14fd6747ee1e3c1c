use Rattle.smx_text.specs.ProgramsText.{programs_grammar}
use Rattle.smx_text.specs.TranscriptText.{transcript_grammar}
use Rattle.smx_text.proofs.ProgramsGrammarLemmas.{versions}
use Rattle.smx_text.proofs.TranscriptGrammarLemmas.{versions as transcript_versions}
use Rattle.smx_text.proofs.VersionLemmas.{written_is_read}
use Rattle.smx_text.proofs.laws.written_is_read.Goals as goal

pub returns-clause-programs : goal.returns-clause-programs
returns-clause-programs c = λ v. written_is_read programs_grammar versions v.version v

pub returns-clause-transcripts : goal.returns-clause-transcripts
returns-clause-transcripts c = λ t. written_is_read transcript_grammar transcript_versions t.version t
