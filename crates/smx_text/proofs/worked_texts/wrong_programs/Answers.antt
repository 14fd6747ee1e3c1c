use Rattle.smx_text.proofs.WrongProgramLemmas.{nothing, cut_header, version_3, header_alone, version_2_alone}
use Rattle.smx_text.proofs.WrongProgramLemmas.{out_of_turn, late_driver, no_process, no_end, cut_line, process_65}
use Rattle.smx_text.proofs.WrongProgramLemmas.{a_space_behind}
use Rattle.smx_text.proofs.worked_texts.wrong_programs.Goals as goal

pub returns : goal.returns
returns c = record {
  nothing = nothing;
  cut_header = cut_header;
  version_3 = version_3;
  header_alone = header_alone;
  version_2_alone = version_2_alone;
  out_of_turn = out_of_turn;
  late_driver = late_driver;
  no_process = no_process;
  no_end = no_end;
  cut_line = cut_line;
  process_65 = process_65;
  a_space_behind = a_space_behind;
}
