use Rattle.smx_text.proofs.WrongTranscriptLemmas.{other_header, version_3, version_2_alone, process_64}
use Rattle.smx_text.proofs.WrongTranscriptLemmas.{half_a_fault, missing_next, end_too_early, two_nexts, late_entry}
use Rattle.smx_text.proofs.WrongTranscriptLemmas.{late_descriptor, late_full_place, no_end}
use Rattle.smx_text.proofs.worked_texts.wrong_transcripts.Goals as goal

pub returns : goal.returns
returns c = record {
  other_header = other_header;
  version_3 = version_3;
  version_2_alone = version_2_alone;
  process_64 = process_64;
  half_a_fault = half_a_fault;
  missing_next = missing_next;
  end_too_early = end_too_early;
  two_nexts = two_nexts;
  late_entry = late_entry;
  late_descriptor = late_descriptor;
  late_full_place = late_full_place;
  no_end = no_end;
}
