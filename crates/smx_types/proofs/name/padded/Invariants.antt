use Rattle.std.proofs.Common.{◌≡◌, ◌++◌, [], ◌∷◌, take, drop, true}
use Rattle.std.specs.List.{list_all}
use Rattle.smx_types.specs.Names.{is_name_byte}
use Rattle.smx_types.proofs.name.padded.Given as goal

abbrev pub invariant-bytes : goal.invariant-bytes
invariant-bytes l = record {
  named : list_all is_name_byte (take l.i l.bytes) ≡ true;
  all : l.all ≡ take l.i l.bytes ++ drop l.i (0 ∷ 0 ∷ 0 ∷ 0 ∷ 0 ∷ 0 ∷ 0 ∷ 0 ∷ []);
}
