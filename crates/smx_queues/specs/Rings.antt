-- The ring that each number is in, and the links of the rings.
use Rattle.std.specs.Prelude.{◌≡◌, ◌≢◌, ℕ, suc, ◌+◌, ◌-◌, ◌<◌, ◌^◌, ◌==◌, not, nat_lt, if◌then◌else◌, List, length}
use Rattle.std.specs.Prelude.{count_by, slice_index_or}

-- A count of numbers, and the owner of each. The owner of a number is 0 if it is in no ring, and otherwise 1 more than
-- the number whose ring it is in.
pub record RingTable : Type 0 where
  pub count : ℕ
  pub owners : List ℕ

-- the element at an index, and 0 past the end
abbrev pub at : List ℕ → ℕ → ℕ
at xs i = slice_index_or xs i 0

-- how many numbers are in a ring
abbrev pub ring_count : RingTable → ℕ
ring_count t = count_by (λ n. not (n == 0)) t.owners

-- The ring of a node, as an owner. The first nodes are the numbers. After them comes one node for each ring, at which
-- the ring begins.
abbrev pub ring_at : ℕ → List ℕ → ℕ → ℕ
ring_at count owners i = if nat_lt i count then at owners i else suc (i - count)

-- for each of the first `many` nodes: the first list leads to a node from which the second list leads back
abbrev pub LeadsBack : ℕ → List ℕ → List ℕ → Type 0
LeadsBack many xs ys = (i : ℕ) → i < many → (at xs i < many) × (at ys (at xs i) ≡ i)

-- the rings of this count of numbers, linked in both directions; a number is followed by one of a lower rank, or by the
-- beginning of its ring
pub record AreRings (count : ℕ) (owners next previous : List ℕ) : Type 0 where
  pub small : count < 2 ^ 63
  pub many : length owners ≡ count
  pub many_next : length next ≡ count + count
  pub many_previous : length previous ≡ count + count
  pub forth : LeadsBack (count + count) next previous
  pub back : LeadsBack (count + count) previous next
  pub alone : (i : ℕ) → i < count → at owners i ≡ 0 → at next i ≡ i
  pub same : (i : ℕ) → i < count + count → ring_at count owners (at next i) ≡ ring_at count owners i
  pub rank : ℕ → ℕ
  pub falls : (i : ℕ) → i < count + count → at next i < count → ring_at count owners i ≢ 0
      → rank (at next i) < rank i
