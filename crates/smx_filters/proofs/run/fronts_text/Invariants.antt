use Rattle.std.proofs.Common.{◌≡◌, ◌++◌, take}
use Rattle.std.specs.Prelude.{codes}
use Rattle.smx_filters.specs.FrontsText.{front_lines}
use Rattle.smx_filters.proofs.run.fronts_text.Given as goal

abbrev pub invariant-loop-front : goal.invariant-loop-front
invariant-loop-front l = record {
  process : l.process ≡ l.front-index;
  text : l.text.items ≡ codes "fronts 1\n" ++ front_lines 0 (take l.front-index l.fronts);
}
