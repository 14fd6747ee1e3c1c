-- A move of a first message to its next place, and the marks after it.
use Rattle.smx_config.proofs.Common.{◌≡◌, List, Some, arith, DriverSpec, Place, Configuration, same_place, IsSound}
use Rattle.smx_config.proofs.Common.{after_move, next_open_place, turned_by_move, Machine, AreMarks, IsWoken, Marks}
use Rattle.smx_model.specs.Settling.{after_move_between}
use Rattle.smx_model.proofs.FeederLemmas.{moved_frees}
use Rattle.smx_model.proofs.TurningLemmas.{turns_moved}
use Rattle.smx_config.proofs.WakeLemmas.{marks_after}
use Rattle.smx_config.proofs.WokenLemmas.{turned_is}

-- moving a first message to the place to which it may move on is the move from its place
pub moves_there : (m n : Machine) (p q : Place) → next_open_place m.drivers m.configuration p ≡ Some q
    → n ≡ record m { configuration = after_move_between m.drivers m.configuration p q }
    → n ≡ record m { configuration = after_move m.drivers m.configuration p }
moves_there m n p q e is = grind arith

-- after a move it is enough to mark the place that the message left, the place that it reached, if that was empty, and
-- the places that wait for the first of these, if that is no longer full
pub moved_marks : (drivers : List DriverSpec) (c : Configuration) (p q : Place) (old new : Marks) → IsSound drivers c
    → AreMarks drivers c old → next_open_place drivers c p ≡ Some q
    → IsWoken drivers (after_move drivers c p) (turned_by_move drivers c p) (same_place p) old new
    → AreMarks drivers (after_move drivers c p) new
moved_marks drivers c p q old new sound marks next w =
    let now = after_move drivers c p in
    marks_after drivers c now (turned_by_move drivers c p) (same_place p) (same_place p) old new marks
    (record {
      frees = λ r f. f;
      turns_only = turned_is drivers c now p q next (turns_moved drivers c p q sound.ordered.flow next);
      frees_only = λ r. moved_frees drivers c p r;
    }) w
