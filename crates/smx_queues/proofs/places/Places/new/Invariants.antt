use Rattle.smx_queues.proofs.PlacesOfLemmas.{AreSoFar}
use Rattle.smx_queues.proofs.places.Places.new.Given as goal

abbrev pub invariant-loop-i : goal.invariant-loop-i
invariant-loop-i l = AreSoFar l.drivers l.rows.items l.places.items l.i
