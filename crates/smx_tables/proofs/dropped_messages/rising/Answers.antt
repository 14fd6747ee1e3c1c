use Rattle.std.proofs.Common.{ℕ}
use Rattle.std.proofs.lemmas.List.Sorted.{IsNonDecreasingBy-from_sort}
use Rattle.smx_tables.proofs.DropLemmas.{left_in_order}
use Rattle.smx_tables.proofs.dropped_messages.rising.Goals as goal

pub returns : goal.returns
returns c = λ old new apart h.
    left_in_order old new c.args.dropped.items c.sort_unstable.new.self.items apart h
    c.sort_unstable.ensures.permutation
    (IsNonDecreasingBy-from_sort (λ (n : ℕ). n) c.sort_unstable.new.self.items c.sort_unstable.ensures.sorted)
