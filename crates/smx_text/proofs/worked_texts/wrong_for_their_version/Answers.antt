use Rattle.smx_text.proofs.WrongCommandLemmas.{hangup}
use Rattle.smx_text.proofs.WrongProgramLemmas.{driver_65, driver_129}
use Rattle.smx_text.proofs.WrongTranscriptLemmas.{hangup_in_version_1, end_of_file, refusal, hung_up_stream}
use Rattle.smx_text.proofs.WrongTranscriptLemmas.{driver_65_of_a_transcript, driver_129_of_a_transcript}
use Rattle.smx_text.proofs.worked_texts.wrong_for_their_version.Goals as goal

pub returns : goal.returns
returns c = record {
  hangup = hangup;
  hangup_in_version_1 = hangup_in_version_1;
  end_of_file = end_of_file;
  refusal = refusal;
  hung_up_stream = hung_up_stream;
  driver_65 = driver_65;
  driver_65_of_a_transcript = driver_65_of_a_transcript;
  driver_129 = driver_129;
  driver_129_of_a_transcript = driver_129_of_a_transcript;
}
