-- The knowledge of a seat, as contracts see it.
use Rattle.std.proofs.Common.{◌≡◌, ℕ, ◌+◌, ◌*◌, ◌%◌, ◌<◌, true, List, [], ◌++◌, ◌∷◌, map, Some, None, sym, ◌∙◌}
use Rattle.std.proofs.Common.{arith}
use Rattle.std.specs.List.{range_with_len}
use Rattle.std.proofs.lemmas.List.FromFn.{map-range_with_len_more}
use Rattle.smx_types.specs.declared.command.Entry.{Entry}
use Rattle.smx_shared.specs.Calls.{GoesOnFrom, HasSeenMore, SeesFront, EndsAs}
use Rattle.smx_shared.specs.CloseFaults.{ShowsHeld}
use Rattle.smx_shared.specs.Fronts.{word_of, turn_bit}
use Rattle.smx_shared.specs.Recorded.{Recorded, IsSoundSystem}
use Rattle.smx_shared.specs.Seats.{SharedAs, GoesOnNamed, SharedId, Seated, first_seat, entries_of, AreMetBy}
use Rattle.smx_shared.specs.Seats.{IsBeginningOf}
use Rattle.smx_shared.specs.SeatViews.{known_of, IsInformed, HasGrown, FoundWord, IsWordFrom}
use Rattle.smx_shared.specs.TurnRule.{Slot, system_with}
use Rattle.smx_shared.specs.declared.front.Front.{Front}
use Rattle.smx_shared.specs.declared.seat_view.SeatView.{SeatView}
use Rattle.smx_model.proofs.LimitLemmas.{always_within}
use Rattle.smx_shared.proofs.TellLemmas.{grown_trans}
use Rattle.smx_shared.proofs.FrontWordLemmas.{word_small, reads_front, shows_held}

-- a seat that has grown, and whose knowledge is true, has seen more
pub has_seen_more : (v w : SeatView) → HasGrown v w → IsInformed w → v.named ≡ true
    → HasSeenMore (known_of v) (known_of w)
has_seen_more v w grown informed named = grind (arith, informed.own (grown.named ∙ named))

-- the same in two steps
pub has_seen_more_by : (u v w : SeatView) → HasGrown u v → HasGrown v w → IsInformed w → u.named ≡ true
    → HasSeenMore (known_of u) (known_of w)
has_seen_more_by u v w first second = has_seen_more u w (grown_trans u v w first second)

-- a word that was found can be read
pub found_small : (v w : SeatView) (n : ℕ) → FoundWord v w n → IsInformed w → n < 4096 * 4294967296
found_small v w n found informed = grind (arith, word_small, always_within)

-- it is read as the front of what was seen
pub found_front : (v w : SeatView) (n : ℕ) (front : Front) → FoundWord v w n → word_of front ≡ n
    → front.links < 2048 → SeesFront (known_of v) (known_of w) front × (turn_bit front.held ≡ n % 2)
found_front v w n front found word links =
    let read = reads_front w.drivers n w.seen front found.front (always_within w.drivers w.seen).links word links in
    (record { numbers = read.0; own = found.own }, read.1)

-- it shows the turn held if its turn bit is set
pub found_held : (n : ℕ) (front : Front) → turn_bit front.held ≡ n % 2 → n % 2 ≡ 1 → front.held ≡ true
found_held n front bit odd = shows_held front.held (bit ∙ odd)

-- the system in a slot, or this one if the slot is empty
slot_or : Recorded → Slot → Recorded
slot_or s (Some x) = x
slot_or s None = s

-- the system at the end
pub ends_as : (v : SeatView) (x : Slot) (s : Recorded) (h : List Entry) → x ≡ Some s
    → x ≡ Some (system_with v.drivers v.limit h) → v.named ≡ true → IsSoundSystem (system_with v.drivers v.limit h)
    → IsBeginningOf v.seen h → (v.named ≡ true → v.own ≡ entries_of v.process h)
    → AreMetBy (system_with v.drivers v.limit h) v.met → EndsAs (known_of v) v.met s
unfolding slot_or
ends_as v x s h is there named sound seen own met = grind (arith, slot_or s, own named)

-- the seat of the next process comes after the earlier ones
pub one_seat_more : (shared : SharedId) (s : Recorded) (n : ℕ) (seats more : List Seated) (seat : Seated)
    → seats ≡ map (first_seat shared s) (range_with_len 0 n) → seat ≡ first_seat shared s n → more ≡ seats ++ seat ∷ []
    → more ≡ map (first_seat shared s) (range_with_len 0 (n + 1))
one_seat_more shared s n seats more seat before is added =
    added ∙ rw (before, is) (sym (map-range_with_len_more {X = Seated} (first_seat shared s) 0 n n (omega arith)))

-- the system at the end continues the one that was shared
pub goes_on_from : (shared : SharedAs) (v : SeatView) (x : Slot) (s : Recorded) (h : List Entry) → x ≡ Some s
    → x ≡ Some (system_with v.drivers v.limit h) → GoesOnNamed shared.processes shared.start.history h
    → v.drivers ≡ shared.start.drivers → v.limit ≡ shared.start.limit → GoesOnFrom shared s
unfolding slot_or
goes_on_from shared v x s h is there begun drivers limit = grind (arith, slot_or s)

-- a word that is the front of a history which begins with what was seen is small
pub from_small : (v : SeatView) (n : ℕ) → IsWordFrom v n → n < 4096 * 4294967296
from_small v n word = grind (arith, word_small, always_within)

-- if its turn bit is set, it is read as a front that shows the turn held
pub from_held : (v : SeatView) (n : ℕ) (front : Front) → n % 2 ≡ 1 → IsWordFrom v n → word_of front ≡ n
    → front.links < 2048 → ShowsHeld (known_of v) front
from_held v n front odd word is links =
    let few = (always_within v.drivers word.history).links in
    let read = reads_front v.drivers n word.history front word.front few is links in
    record { held = found_held n front read.1 odd; history = word.history; seen = word.seen; numbers = read.0 }
