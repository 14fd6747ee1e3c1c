use Rattle.smx_text.specs.ProgramsText.{programs_grammar}
use Rattle.smx_text.specs.TranscriptText.{transcript_grammar}
use Rattle.smx_text.proofs.ProgramsGrammarLemmas.{versions}
use Rattle.smx_text.proofs.TranscriptGrammarLemmas.{versions as transcript_versions}
use Rattle.smx_text.proofs.VersionLemmas.{comes_before_all}
use Rattle.smx_text.proofs.laws.want_of_memory_comes_before.Goals as goal

pub returns-clause-programs : goal.returns-clause-programs
returns-clause-programs c = comes_before_all programs_grammar versions

pub returns-clause-transcripts : goal.returns-clause-transcripts
returns-clause-transcripts c = comes_before_all transcript_grammar transcript_versions
