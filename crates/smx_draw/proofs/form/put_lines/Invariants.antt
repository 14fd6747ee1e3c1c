use Rattle.std.proofs.Common.{◌≡◌, ◌++◌, take}
use Rattle.std.specs.List.{flat_map}
use Rattle.smx_draw.specs.Parts.{part_text}
use Rattle.smx_draw.specs.declared.parts.Look.TheVariants.{Line}
use Rattle.smx_draw.proofs.form.put_lines.Given as goal

abbrev pub invariant-loop-part : goal.invariant-loop-part
invariant-loop-part l = l.out.items ≡ l.initial.out.items ++ flat_map (part_text Line) (take l.part-index l.parts)
