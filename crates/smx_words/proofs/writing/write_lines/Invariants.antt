use Rattle.smx_words.proofs.Common.{◌≡◌, ◌++◌, map, take, AllByRecursion}
use Rattle.smx_words.specs.Words.{text_of}
use Rattle.smx_words.proofs.writing.write_lines.Given as goal

abbrev pub invariant-loop-item : goal.invariant-loop-item
invariant-loop-item g l = record {
  written : l.out.items ≡ l.initial.out.items ++ text_of (map g.T.Spell.words (take l.item-index l.items));
  fits : AllByRecursion g.T.Spell.Fits (take l.item-index l.items);
}
