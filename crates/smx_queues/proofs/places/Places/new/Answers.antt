use Rattle.std.proofs.Common.{◌≡◌, length, arith}
use Rattle.std.proofs.lemmas.Option.{slice_get-get_or}
use Rattle.smx_queues.proofs.PlacesOfLemmas.{all_drivers, next_driver}
use Rattle.smx_queues.proofs.places.Places.new.Goals as goal

pub loop-i-preserved : goal.loop-i-preserved
loop-i-preserved c =
    let n : c.len.result ≡ length c.loop-i.places.items = omega (arith, c.len.ensures, c.loop-i.places.ok.0) in
    rw (c.in_ok-push.ensures.items, c.in_ok-push_sides.ensures, n) (next_driver _ _ _ _ _ (omega arith)
    (grind (arith, slice_get-get_or c.args.drivers.now c.loop-i.i)) c.loop-i.invariant)

pub invariant_of-result : goal.invariant_of-result
invariant_of-result c = rw c.in_ok-drivers.ensures.items
    (all_drivers _ c.loop-i.i _ _ (omega arith) c.loop-i.invariant)
