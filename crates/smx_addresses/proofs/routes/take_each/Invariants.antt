use Rattle.smx_model.proofs.Common.{◌≡◌, take, keys_of, lookup}
use Rattle.std.specs.List.{IsDistinct}
use Rattle.smx_addresses.specs.Keys.{Key, is_key, left_of}
use Rattle.smx_addresses.proofs.routes.take_each.Given as goal

abbrev pub invariant-loop-key : goal.invariant-loop-key
invariant-loop-key l = record {
  rest : (q : Key) → lookup (is_key q) l.ids.entries
      ≡ left_of (take l.key-index l.keys) q (lookup (is_key q) l.fn.ids.entries);
  unique : IsDistinct is_key (keys_of l.ids.entries);
}
