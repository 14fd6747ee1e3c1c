use Rattle.std.proofs.Common.{length, ap, arith, ◌∙◌}
use Rattle.smx_queues.proofs.PlacesOfLemmas.{driver_at}
use Rattle.smx_queues.proofs.places.Places.new_queues.Goals as goal

pub marks_of-high-requires-clause-there : goal.marks_of-high-requires-clause-there
marks_of-high-requires-clause-there c = rw (
  c.deref.ensures.value,
  c.deref-place-items.ensures.value,
  c.self.invariant.places_are,
) (driver_at _ _ _
    (omega (arith, ap length (c.deref-place-items.ensures.value ∙ c.self.invariant.places_are))))
