use Rattle.std.proofs.Common.{◌≡◌, length, take, vec_capacity}
use Rattle.smx_types.proofs.items.Copied.copies.Given as goal

abbrev pub invariant-loop-item : goal.invariant-loop-item
invariant-loop-item g l = record {
  copied : l.made.items ≡ take l.item-index l.items;
  room : vec_capacity l.made ≡ length l.items;
}
