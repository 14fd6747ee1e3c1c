-- Rising ids of links.
use Rattle.smx_model.proofs.Common.{ℕ, ◌<◌, ◌≤◌, ◌+◌, Bool, List, [], ◌∷◌, ◌++◌, filter, arith, lt-ltb, All-nil}
use Rattle.smx_model.proofs.Common.{All-filter, recursion_from_All, Link, AreIdsRising, rules}
use Rattle.std.proofs.lemmas.List.Elements.{All-push}
use Rattle.smx_model.proofs.EachLemmas.{each_map, later_filter, later_push}

-- without links, ids rise below 1 as the next id
pub ids_none : AreIdsRising [] 1
ids_none = record { rise = tt; from_one = All-nil _; below_next = All-nil _; next = omega arith }

-- with one more link at the end, under the next id, ids still rise, below the one after that
pub ids_push : (ls : List Link) (l : Link) → AreIdsRising ls l.id → AreIdsRising (ls ++ l ∷ []) (l.id + 1)
ids_push ls l h = record {
  rise = later_push _ ls l
      (each_map _ _ ls (λ k. lt-ltb k.id l.id) (recursion_from_All (λ k. k.id < l.id) ls h.below_next)) h.rise;
  from_one = All-push (λ k. 1 ≤ k.id) ls l h.from_one h.next;
  below_next =
      All-push (λ k. k.id < l.id + 1) ls l (λ k d lt. let p = h.below_next k d lt in omega arith) (omega arith);
  next = omega arith;
}

-- ids of links still rise after a filter, below the same next one
pub ids_filter : (ls : List Link) (stays : Link → Bool) (n : ℕ) → AreIdsRising ls n → AreIdsRising (filter stays ls) n
ids_filter ls stays n h = search (rules, later_filter _ stays ls h.rise, All-filter stays)
