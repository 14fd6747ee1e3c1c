-- The messages that are dropped at a place, and the serials of dropped messages in order.
use Rattle.smx_tables.proofs.Common.{◌≡◌, ℕ, suc, ◌+◌, ◌≤◌, Bool, true, false, ◌&&◌, ◌||◌, not, eqb, List, [], ◌∷◌}
use Rattle.smx_tables.proofs.Common.{◌++◌, map, filter, refl, sym, ap, ◌∙◌, arith, rules, AllByRecursion, not-not}
use Rattle.smx_tables.proofs.Common.{eq-eqb, nat_tests, filter_agree, Place, StreamId, QueuedMessage, same_stream}
use Rattle.smx_tables.proofs.Common.{is_flushed_at}
use Rattle.std.proofs.Common.{◌≢◌, cond, length}
use Rattle.std.specs.List.{AllPairs, sum_by}
use Rattle.std.specs.List.Sorted.{IsNonDecreasing, IsPermutation}
use Rattle.std.proofs.lemmas.List.{map-append}
use Rattle.std.proofs.lemmas.List.Sums.{sum_by-cons}
use Rattle.std.proofs.lemmas.List.Sorted.{IsPermutation-append_left, IsPermutation-filter_both, IsPermutation-map}
use Rattle.std.proofs.lemmas.List.Sorted.{IsPermutation-refl, IsPermutation-trans, sum_by-IsPermutation}
use Rattle.smx_types.specs.declared.message.Message.{Message}
use Rattle.smx_types.specs.declared.command.Sides.{Sides}
use Rattle.smx_types.specs.declared.stream.Side.{Side}
use Rattle.smx_types.specs.declared.stream.Side.TheVariants as side
use Rattle.smx_model.specs.Commands.{is_side}
use Rattle.smx_model.specs.Configuration.{is_at}
use Rattle.smx_model.specs.Ordered.{AllLater, in_rising_order}
use Rattle.smx_model.specs.Queues.{queue}
use Rattle.smx_model.specs.Removal.{serials, serials_that_left}
use Rattle.smx_model.proofs.CountLemmas.{times, times_rising}
use Rattle.smx_model.proofs.EachLemmas.{each_of_every, later_pairs, later_placed}
use Rattle.smx_model.proofs.TestLemmas.{all_true, keep_all, none_kept}
use Rattle.smx_model.proofs.QueueLemmas.{gone_is}
use Rattle.smx_tables.specs.DroppedMessages.{AreDropped}
-- filtering by two tests in turn is filtering by both at once
pub use Rattle.smx_streams.proofs.ListLemmas.{filter_twice}

-- a side of a stream
abbrev at : StreamId → Side → Place
at s x = record { stream = s; side = x }

-- ---- one more place is emptied

-- the items that fail one of two tests: those that fail the first, and the others that fail the second, in some order
split : {X : Type 0} (t u : X → Bool) (xs : List X)
    → IsPermutation (filter (λ x. not (t x && not (u x))) xs) (filter (λ x. not (t x)) xs ++ filter u (filter t xs))
split t u xs =
    let kept = filter (λ x. not (t x && not (u x))) xs in
    let first : filter (λ x. not (t x)) kept ≡ filter (λ x. not (t x)) xs = filter_twice _ _ xs
    ∙ filter_agree (λ x. not (t x && not (u x)) && not (t x)) (λ x. not (t x)) (λ x. grind (arith, nat_tests)) xs in
    let second : filter t kept ≡ filter u (filter t xs) = filter_twice _ t xs
    ∙ filter_agree (λ x. not (t x && not (u x)) && t x) (λ x. t x && u x) (λ x. grind (arith, nat_tests)) xs
    ∙ sym (filter_twice t u xs) in
    rw (first, second) at (IsPermutation-filter_both (λ x. not (t x)) t (λ x. sym (not-not (t x))) kept)

-- the serials of a flow's messages at a place are those of its queue
serials_at : (flow : List QueuedMessage) (p : Place)
    → serials (filter (is_at p) flow) ≡ map (λ m. m.serial) (queue flow p)
serials_at [] p = refl
serials_at (h ∷ hs) p = grind (arith, serials_at hs p)

-- if one more place is emptied, the serials of its messages are dropped too
pub dropped_more : (old flow new : List QueuedMessage) (p : Place) (dropped more : List ℕ)
    → new ≡ filter (λ h. not (is_at p h)) flow → more ≡ dropped ++ map (λ m. m.serial) (queue flow p)
    → AreDropped old flow dropped → AreDropped old new more
dropped_more old flow new p dropped more fewer longer h =
    let fails = filter (λ x. not (h.keep x)) old in
    let here : serials (filter (is_at p) (filter h.keep old)) ≡ map (λ (m : Message). m.serial) (queue flow p) =
    ap (λ (hs : List QueuedMessage). serials (filter (is_at p) hs)) (sym h.left) ∙ serials_at flow p in
    let parts : serials (fails ++ filter (is_at p) (filter h.keep old))
    ≡ serials fails ++ map (λ (m : Message). m.serial) (queue flow p) =
    map-append (λ (x : QueuedMessage). x.message.serial) fails (filter (is_at p) (filter h.keep old))
    ∙ ap (λ (ns : List ℕ). serials fails ++ ns) here in
    record {
      keep = λ x. h.keep x && not (is_at p x);
      left = fewer ∙ ap (filter (λ x. not (is_at p x))) h.left ∙ filter_twice h.keep (λ x. not (is_at p x)) old;
      gone = rw longer (IsPermutation-trans _ _ _
          (rw parts at (IsPermutation-map (λ (x : QueuedMessage). x.message.serial) _ _ (split h.keep (is_at p) old)))
          (IsPermutation-append_left _ (serials fails) dropped h.gone));
    }

-- filtering by a test that all items pass changes nothing
pub all_stay : {X : Type 0} (xs : List X) → xs ≡ filter (λ x. true) xs
all_stay xs = sym (keep_all (λ x. true) xs (all_true _ xs (λ x. refl)))

-- at first nothing is dropped
pub none_dropped : (flow : List QueuedMessage) (dropped : List ℕ) → dropped ≡ [] → AreDropped flow flow dropped
none_dropped flow dropped none = record {
  keep = λ x. true;
  left = all_stay flow;
  gone = rw (none, none_kept (λ (x : QueuedMessage). false) flow (all_true _ flow (λ x. refl))) (IsPermutation-refl []);
}

-- ---- the number of messages

-- the messages at a place and those at other places are together as many as the flow has
pub place_and_rest : (flow : List QueuedMessage) (p : Place)
    → length (queue flow p) + length (filter (λ h. not (is_at p h)) flow) ≡ length flow
place_and_rest [] p = refl
place_and_rest (h ∷ hs) p = grind (arith, place_and_rest hs p)

-- a place on a named side of the stream is on its write side or its read side
pub on_both_sides : (stream : StreamId) (sides : Sides) (s : StreamId) (x : Side)
    → (same_stream s stream && is_side sides x)
    ≡ (is_flushed_at stream sides side.Write (at s x) || is_flushed_at stream sides side.Read (at s x))
on_both_sides stream sides s side.Write = grind (arith, nat_tests)
on_both_sides stream sides s side.Read = grind (arith, nat_tests)

-- ---- sorted numbers

-- no number of the list is below an earlier one
abbrev IsUp : List ℕ → Type 0
IsUp ns = AllLater (λ m n. m ≤ n) ns

-- the function `in_rising_order` puts a list in order
rising_up : (ns : List ℕ) → IsUp (in_rising_order ns)
rising_up [] = tt
rising_up (n ∷ ns) = grind (arith, later_placed, each_of_every, rising_up ns)

-- the number of times that a number is in a list, as a sum over the list
times_sum : (k : ℕ) (ns : List ℕ) → times k ns ≡ sum_by (λ m. cond (eqb m k) 1 0) ns
times_sum k [] = refl
times_sum k (n ∷ ns) =
    ap (λ (m : ℕ). cond (eqb n k) 1 0 + m) (times_sum k ns) ∙ sym (sum_by-cons (λ (m : ℕ). cond (eqb m k) 1 0) n ns)

-- a permutation has each number as often
pub times_permuted : (k : ℕ) (ns ms : List ℕ) → IsPermutation ns ms → times k ms ≡ times k ns
times_permuted k ns ms h = grind (arith, times_sum k ms, sum_by-IsPermutation, times_sum k ns)

-- a number is once more in a list with that number in front
here_once : (n : ℕ) (ns : List ℕ) → times n (n ∷ ns) ≡ suc (times n ns)
here_once n ns = rw (eq-eqb n n refl) (omega arith)

-- if no number of a list is below m, no number that is in it is
none_lower : (m n : ℕ) (ns : List ℕ) → AllByRecursion (λ k. m ≤ k) ns → 1 ≤ times n ns → m ≤ n
none_lower m n [] h some = absurd (omega arith)
none_lower m n (k ∷ ns) h some = grind (arith, none_lower m n ns h.1, at)

-- two lists in order are equal if each number is in both equally often
one_up : (ns ms : List ℕ) → IsUp ns → IsUp ms → ((k : ℕ) → times k ns ≡ times k ms) → ns ≡ ms
one_up [] [] h g same = refl
one_up [] (m ∷ ms) h g same = absurd (omega (arith, same m, here_once m ms))
one_up (n ∷ ns) [] h g same = absurd (omega (arith, same n, here_once n ns))
one_up (n ∷ ns) (m ∷ ms) h g same = grind (arith, none_lower, same n, here_once, same m, one_up ns ms h.1 g.1, at)

-- a permutation that doesn't decrease is the list in rising order
pub sorted_is : (ns ms out : List ℕ) → IsPermutation ns ms → IsPermutation ms out → IsNonDecreasing out
    → out ≡ in_rising_order ns
sorted_is ns ms out h k up = one_up out (in_rising_order ns)
    (later_pairs (λ m n. m ≤ n) out (λ i j d lt. up i j d (omega arith))) (rising_up ns)
    (λ n. times_permuted n ms out k ∙ (times_permuted n ns ms h ∙ sym (times_rising n ns)))

-- the dropped serials, once they are sorted, are those that left the flow
pub left_in_order : (old new : List QueuedMessage) (dropped out : List ℕ)
    → AllPairs (λ m n. m ≢ n) (serials old) → AreDropped old new dropped → IsPermutation dropped out
    → IsNonDecreasing out
    → out ≡ serials_that_left old new
left_in_order old new dropped out apart h sorted up =
    sorted_is (serials (filter (λ x. not (h.keep x)) old)) dropped out h.gone sorted up
    ∙ (sym (gone_is old h.keep apart) ∙ ap (serials_that_left old) (sym h.left))

-- if no serial was dropped, none left the flow
pub none_left : (old new : List QueuedMessage) (dropped : List ℕ)
    → AllPairs (λ m n. m ≢ n) (serials old) → AreDropped old new dropped → length dropped ≡ 0
    → [] ≡ serials_that_left old new
none_left old new [] apart h none = search (rules, left_in_order, IsPermutation-refl)
none_left old new (n ∷ ns) apart h none = absurd (omega (arith, none))
