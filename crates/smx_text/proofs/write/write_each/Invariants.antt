use Rattle.smx_text.proofs.Common.{map, take, AllByRecursion, program_lines, V2, text_of}
use Rattle.std.proofs.Common.{◌≡◌, ◌++◌}
use Rattle.smx_text.specs.ProgramsText.{line_words, FitsLine}
use Rattle.smx_text.proofs.write.write_each.Given as goal

abbrev pub invariant-loop-i : goal.invariant-loop-i
invariant-loop-i l = record {
  written : l.out.items ≡ l.initial.out.items ++ text_of (map line_words (program_lines 0 (take l.i l.programs)));
  fits : AllByRecursion (FitsLine V2) (program_lines 0 (take l.i l.programs));
}
