use Rattle.smx_words.proofs.Common.{◌≡◌, ◌∷◌, ◌++◌, take, decimal, AllByRecursion, FitsNumber}
use Rattle.std.specs.List.{flat_map}
use Rattle.smx_words.proofs.writing.entry.put_serials.Given as goal

abbrev pub invariant-loop-serial : goal.invariant-loop-serial
invariant-loop-serial l = record {
  written : l.out.items ≡ l.initial.out.items ++ flat_map (λ n. 32 ∷ decimal n) (take l.serial-index l.serials);
  fits : AllByRecursion FitsNumber (take l.serial-index l.serials);
}
