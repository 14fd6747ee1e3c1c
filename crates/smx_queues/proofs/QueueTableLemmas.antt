-- Queues by number, when one of them changes.
use Rattle.std.proofs.Common.{◌≡◌, ℕ, zero, suc, ◌+◌, ◌<◌, ◌≤◌, nat_lt, not, Bool, true, false, List, [], ◌∷◌, ◌++◌}
use Rattle.std.proofs.Common.{length, set, map, cond, position, Option, Some, None, refl, sym, ap, ◌∙◌, arith}
use Rattle.std.specs.List.{slice_get, position_or_len}
use Rattle.std.proofs.lemmas.Bool.Decides.{nat_tests}
use Rattle.std.proofs.lemmas.List.Sums.{fails_before_first, position_or_len_is}
use Rattle.std.proofs.lemmas.List.Quantifiers.{position-Some}
use Rattle.std.proofs.lemmas.List.{get_or-set_same, set-set, length-drop}
use Rattle.slab.specs.Slab.{Slab}
use Rattle.smx_types.specs.declared.message.Message.{Message}
use Rattle.smx_queues.specs.declared.chain.Chain.{Chain}
use Rattle.smx_queues.specs.QueueTable.{Queue, QueueTable, IsPlace, queue_at, least_vacant, with_place, with_queue}
use Rattle.smx_queues.specs.QueueTable.{without_front, without_messages}
use Rattle.smx_queues.specs.declared.chain.Node.{Node}
use Rattle.smx_queues.specs.Chains.{chain_at, no_chain, slot_of}

-- the number of a place is below the length of the list
pub place_below : (queues : List (Option Queue)) (p : ℕ) → IsPlace queues p → p < length queues
place_below [] p is = absurd (cc)
place_below (x ∷ queues) zero is = omega arith
place_below (x ∷ queues) (suc p) is = omega (arith, place_below queues p is)

-- after setting a queue at a number, this queue is there
pub set_at : (queues : List (Option Queue)) (p : ℕ) (q : Queue) → p < length queues
    → queue_at (set queues p (Some q)) p ≡ q
set_at queues p q below = rw (get_or-set_same queues p (Some q) None below) refl

-- setting a place's queue to itself changes nothing
pub set_itself : (queues : List (Option Queue)) (p : ℕ) → IsPlace queues p
    → set queues p (Some (queue_at queues p)) ≡ queues
set_itself [] p is = absurd (cc)
set_itself (Some q ∷ queues) zero is = refl
set_itself (None ∷ queues) zero is = absurd (cc)
set_itself (x ∷ queues) (suc p) is = ap (λ rest. x ∷ rest) (set_itself queues p is)

-- a list with a first message is not empty
first_some : (ms : List Message) (m : Message) → Some m ≡ slice_get ms 0 → 0 < length ms
first_some [] m e = absurd (cc)
first_some (x ∷ ms) m e = omega arith

-- a list without a first message is empty
pub none_first : (ms : List Message) → slice_get ms 0 ≡ None → ms ≡ []
none_first [] e = refl
none_first (x ∷ ms) e = absurd cc

-- after setting a place's queue, the place is still there, and this queue is there
pub place_set : (queues : List (Option Queue)) (p : ℕ) (q : Queue) → IsPlace queues p
    → IsPlace (with_queue queues p q) p × (queue_at (with_queue queues p q) p ≡ q)
place_set queues p q is = grind (arith, place_below, get_or-set_same, set_at)

-- the place is still there, and it will be the same without messages; each message that left freed an entry
pub record IsClearing (old new : QueueTable) (p : ℕ) : Type 0 where
  pub there : IsPlace new.queues p
  pub cleared : with_queue new.queues p (without_messages (queue_at new.queues p))
      ≡ with_queue old.queues p (without_messages (queue_at old.queues p))
  pub spare : new.spare + length (queue_at new.queues p).messages
      ≡ old.spare + length (queue_at old.queues p).messages

-- this is so after one more message has left the place
pub clearing_goes_on : (old mid new : QueueTable) (p : ℕ) (m : Message) → IsClearing old mid p
    → Some m ≡ slice_get (queue_at mid.queues p).messages 0
    → new.queues ≡ with_queue mid.queues p (without_front (queue_at mid.queues p)) → new.spare ≡ mid.spare + 1
    → IsClearing old new p
clearing_goes_on old mid new p m c taken gone room =
    grind (arith, place_below, set_at, first_some, get_or-set_same, set-set, length-drop)

-- setting a queue at the lowest number without a place adds a place
pub placed_at : (view : List (Option Queue)) (p : ℕ) (q : Queue) → p ≡ least_vacant view → p < length view
    → set view p (Some q) ≡ with_place view q
placed_at [] p q e lt = absurd (omega (arith, lt))
placed_at (None ∷ view) p q e lt = rw e refl
placed_at (Some x ∷ view) p q e lt = grind (arith, placed_at view (least_vacant view) q refl (omega (arith, e, lt)))

-- if each number has a place, appending a queue adds a place
pub placed_last : (view : List (Option Queue)) (q : Queue) → length view ≡ least_vacant view
    → view ++ Some q ∷ [] ≡ with_place view q
placed_last [] q e = refl
placed_last (None ∷ view) q e = absurd (omega (arith, e))
placed_last (Some x ∷ view) q e = grind (arith, placed_last view q (omega (arith, e)))

-- the chain has no place
abbrev pub goes : Chain → Bool
goes chain = not chain.there

-- the lowest number without a place is that of the first chain without a place
least_is : (s : Slab Node) (chains : List Chain) → least_vacant (map (slot_of s) chains) ≡ position_or_len goes chains
least_is s [] = refl
least_is s (chain ∷ chains) = grind (arith, least_is s chains)

-- if a search finds the first chain without a place, its number is the lowest without a place
pub vacant_found : (s : Slab Node) (chains : List Chain) (p : ℕ) → Some p ≡ position goes chains
    → (p < length chains) × ((chain_at chains p).there ≡ false) × (p ≡ least_vacant (map (slot_of s) chains))
vacant_found s chains p found = grind (arith, position-Some, goes, least_is, position_or_len_is)

-- if a search finds no chain without a place, the next number is the lowest without a place
pub vacant_not_found : (s : Slab Node) (chains : List Chain) → None ≡ position goes chains
    → length chains ≡ least_vacant (map (slot_of s) chains)
vacant_not_found s chains none =
    sym (least_is s chains ∙ position_or_len_is goes chains (length chains) no_chain (omega arith)
    (λ k less. fails_before_first goes chains k no_chain
    (omega (arith, less, far (nat_lt (position_or_len goes chains) (length chains)) refl none)))
    (λ lt. absurd (omega arith)))
  where
    far : (b : Bool) → nat_lt (position_or_len goes chains) (length chains) ≡ b
        → None ≡ cond b (Some (position_or_len goes chains)) None → length chains ≤ position_or_len goes chains
    far true is none = absurd (cc)
    far false is none = grind (arith, nat_tests)

-- of two settings at the same number, the second one counts
pub set_again : (queues : List (Option Queue)) (p : ℕ) (a b : Option Queue) → set (set queues p a) p b ≡ set queues p b
set_again queues p a b = set-set queues p a b
