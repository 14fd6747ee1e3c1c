use Rattle.std.proofs.Common.{◌≡◌, ◌++◌, drop, map}
use Rattle.smx_draw.specs.Pieces.{filled, filled_from, piece_text}
use Rattle.smx_draw.proofs.pieces.put.Given as goal

abbrev pub invariant-loop-byte : goal.invariant-loop-byte
invariant-loop-byte l = l.out.items ++ filled_from l.is_hole (drop l.byte-index l.template) (map piece_text l.pieces)
    ≡ l.initial.out.items ++ filled l.template (map piece_text l.pieces)
