-- A clone of a store has the same slots.
use Rattle.std.proofs.Common.{◌≡◌, Option, Some, None, refl}
use Rattle.std.proofs.lemmas.List.Elements.{same_from_all_zip}
use Rattle.slab.specs.Slab.{Slab, IsSlabClone, IsSlotClone}
use Rattle.smx_queues.specs.declared.chain.Node.{Node}

-- a clone of a slot is the same slot
same_slot : (x y : Option Node) → IsSlotClone (λ node copy. copy ≡ node) x y → y ≡ x
same_slot None y h = h
same_slot (Some node) None h = absurd h
same_slot (Some node) (Some copy) h = rw h refl

-- a clone of a store has its slots
pub same_slots : (s copy : Slab Node) → IsSlabClone (λ node copy. copy ≡ node) s copy → copy.slots ≡ s.slots
same_slots s copy h = same_from_all_zip _ s.slots copy.slots h.slots same_slot
