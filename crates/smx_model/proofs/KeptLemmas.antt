-- Each command preserves the invariant of configurations.
use Rattle.smx_model.proofs.Common.{◌≡◌, ℕ, zero, suc, ◌<◌, Ok, Err, true, ◌≤◌, List, [], ◌∷◌, length, get_or}
use Rattle.smx_model.proofs.Common.{refl, sym, ◌∙◌, arith, inl, inr, IfOk, All, AllPairs, cases_eq, cases_lt}
use Rattle.smx_model.proofs.Common.{eq-eqb, ltb-true, ne_eqb, recursion_from_All, Command, Entry, DriverSpec, outcome}
use Rattle.smx_model.proofs.Common.{step, after_outcome, Configuration, empty, IsDriverList, after, after_from, IsKept}
use Rattle.smx_model.proofs.Common.{IsSound, AreStreamsKnown, IsKnown, Outcome, serials, after_move, after_settling}
use Rattle.smx_model.proofs.Common.{AreIdsRising, AreRoutesSound, AreLinksSound, exists, Stands, IsSwept, view}
use Rattle.smx_model.proofs.Common.{AreListsOrdered, Place, StreamId, rules}
use Rattle.std.proofs.Common.{◌↔◌}
use Rattle.smx_model.proofs.SettledLemmas.{settled_by}
use Rattle.smx_model.proofs.ConservationLemmas.{IsNumbered, goes_accepted, moved_same, moved_next, numbered_empty}
use Rattle.smx_model.proofs.CountLemmas.{times}
use Rattle.smx_model.proofs.OutcomeLemmas.{IfAccepted, if_ok}
use Rattle.smx_model.proofs.RangeLemmas.{AreNamed, named_accepted, named_moved}
use Rattle.smx_model.proofs.RisingLemmas.{rising_accepted, rising_empty, rising_moved}
use Rattle.smx_model.proofs.RouteLemmas.{AreRouted, rising_ids, routed_accepted, routed_empty, routed_moved}
use Rattle.smx_model.proofs.RouteLemmas.{sound_routes}
use Rattle.smx_model.proofs.SettlingLemmas.{settled_is}
use Rattle.smx_model.proofs.SoundLemmas.{sound_accepted, sound_empty, sound_moved}
use Rattle.smx_model.proofs.SweptLemmas.{stands_exists, swept_accepted, swept_moved}
use Rattle.smx_model.proofs.ViewLemmas.{each_known, known_of_each, one_configuration}
use Rattle.smx_model.proofs.EachLemmas.{each_both, later_map, each_map}

-- numbers in a list, by index and by count

-- the number at an index within a list has a count of at least one
times_at : (xs : List ℕ) (j d : ℕ) → j < length xs → 1 ≤ times (get_or xs j d) xs
times_at [] j d lt = absurd (omega arith)
times_at (x ∷ xs) zero d lt = rw (eq-eqb x x refl) (omega arith)
times_at (x ∷ xs) (suc j) d lt = omega (arith, times_at xs j d (omega arith))

-- the number is in the list, at this index
record IsAt (n : ℕ) (xs : List ℕ) : Type 0 where
  index : ℕ
  within : index < length xs
  is : (d : ℕ) → get_or xs index d ≡ n

-- a number with a count of at least one has an index in the list
at_some : (n : ℕ) (xs : List ℕ) → 1 ≤ times n xs → IsAt n xs
at_some n [] h = absurd (omega arith)
at_some n (x ∷ xs) h = elim (cases_eq x n) [
  | inl e ↦ record { index = 0; within = omega arith; is = λ d. e }
  | inr ne ↦ let r = at_some n xs (omega (arith, rw (ne_eqb x n ne) at h)) in
      record { index = suc r.index; within = omega (arith, r.within); is = r.is }
]

-- numbers without duplicates

-- if each number has a count of at most one, no two elements are equal
once_apart : (xs : List ℕ) → ((n : ℕ) → times n xs ≤ 1) → AllPairs (λ m n. m ≡ n → ⊥) xs
once_apart [] h i j d lt within e = absurd (omega arith)
once_apart (x ∷ xs) h zero zero d lt within e = absurd (omega arith)
once_apart (x ∷ xs) h zero (suc j) d lt within e = grind (arith, h x, times, times_at)
once_apart (x ∷ xs) h (suc i) zero d lt within e = absurd (omega (arith, lt))
once_apart (x ∷ xs) h (suc i) (suc j) d lt within e = grind (arith, once_apart xs)

-- if no two elements of a list are equal, each number has a count of at most one
apart_once : (xs : List ℕ) → AllPairs (λ m n. m ≡ n → ⊥) xs → (n : ℕ) → times n xs ≤ 1
apart_once [] h n = omega arith
apart_once (x ∷ xs) h n =
    let rest = apart_once xs (λ i j d lt within. h (suc i) (suc j) d (omega (arith, lt)) (omega (arith, within))) n in
    elim (cases_eq x n) [
      | inl e ↦ elim (cases_lt 0 (times n xs)) [
        | inl some ↦ let r = at_some n xs (omega (arith, some)) in
            absurd (h 0 (suc r.index) 0 (omega arith) (omega (arith, r.within)) (e ∙ sym (r.is 0)))
        | inr none ↦ rw (eq-eqb x n e) (omega (arith, none))
      ]
      | inr ne ↦ rw (ne_eqb x n ne) (omega (arith, rest))
    ]

-- if all elements of a list are below a number, no number from that on is in the list
none_from : (xs : List ℕ) (next : ℕ) → All (λ n. n < next) xs → (n : ℕ) → next ≤ n → times n xs ≡ 0
none_from [] next h n le = refl
none_from (x ∷ xs) next h n le = rw (ne_eqb x n (λ e. omega (arith, e, le, h 0 0 (omega arith))))
    (omega (arith, none_from xs next (λ k d lt. h (suc k) d (omega (arith, lt))) n le))

-- if no number from one on is in a list, all its elements are below that one
all_below : (xs : List ℕ) (next : ℕ) → ((n : ℕ) → next ≤ n → times n xs ≡ 0) → All (λ n. n < next) xs
all_below xs next h k d lt = grind (arith, h (get_or xs k d), times_at xs k d lt)

-- from the form of the laws to the form of the lemmas, and back

-- if the drivers have the streams of all parts, they have those of descriptors and links
named_of : (drivers : List DriverSpec) (c : Configuration) → AreStreamsKnown drivers c → AreNamed drivers c
named_of drivers c h = grind (arith, recursion_from_All, each_both)

-- if ids rise and routes are sound, links and routes satisfy `AreRouted`
routed_of : (drivers : List DriverSpec) (c : Configuration) → AreIdsRising c.links c.next_id → AreRoutesSound drivers c
    → AreRouted drivers c
routed_of drivers c h k = record {
  rise = later_map _ _ c.links (λ l k. ltb-true l.id k.id) h.rise;
  ids = each_both _ _ c.links (recursion_from_All _ c.links h.from_one) (recursion_from_All _ c.links h.below_next);
  start = h.next;
  routes = each_both _ _ c.routes (recursion_from_All _ c.routes k.mux) (recursion_from_All _ c.routes k.lead);
}

-- the invariant of a sound configuration, in the form of the lemmas
record Parts (drivers : List DriverSpec) (c : Configuration) : Type 0 where
  links : AreLinksSound c.links
  named : AreNamed drivers c
  routed : AreRouted drivers c
  ordered : AreListsOrdered c
  numbered : IsNumbered c
  swept_ : IsSwept drivers c

-- a sound configuration has all parts of `Parts`
parts_of : (drivers : List DriverSpec) (c : Configuration) → IsSound drivers c → Parts drivers c
parts_of drivers c h = record {
  links = h.links;
  named = named_of drivers c h.known;
  routed = routed_of drivers c h.ids h.routes;
  ordered = h.ordered;
  numbered = record {
    once = apart_once (serials c.flow) h.serials.apart;
    below = none_from (serials c.flow) c.next_serial h.serials.below_next;
  };
  swept_ = h.swept;
}

-- a configuration with all parts of `Parts` is sound
of_parts : (drivers : List DriverSpec) (c : Configuration) → Parts drivers c → IsSound drivers c
of_parts drivers c h = search (rules, rising_ids, sound_routes, known_of_each, each_known, once_apart, all_below)

-- each accepted outcome

-- an accepted command preserves all parts of `Parts`
parts_accepted : (drivers : List DriverSpec) (c : Configuration) (process : ℕ) (k : Command) → Parts drivers c
    → IfAccepted (λ d r. Parts drivers d) (outcome drivers c process k)
parts_accepted drivers c process k h =
    grind (arith, sound_accepted, named_accepted, routed_accepted, rising_accepted, goes_accepted, swept_accepted)

-- the outcome of an accepted command on a sound configuration is sound before settling
pub outcome_sound : (drivers : List DriverSpec) (c : Configuration) (process : ℕ) (k : Command) → IsSound drivers c
    → IfOk (outcome drivers c process k) (λ x. IsSound drivers x.0)
outcome_sound drivers c process k h = grind (arith, if_ok, of_parts, parts_accepted, parts_of)

-- each move

-- after a move queued messages have different serials, below the next one
numbered_moved : (drivers : List DriverSpec) (c : Configuration) (p : Place) → IsNumbered c
    → IsNumbered (after_move drivers c p)
numbered_moved drivers c p h = grind (arith, moved_same, moved_next drivers c p)

-- a move preserves all parts of `Parts`
parts_moved : (drivers : List DriverSpec) (c : Configuration) (p : Place) → Parts drivers c
    → Parts drivers (after_move drivers c p)
parts_moved drivers c p h = record {
  links = sound_moved drivers c p h.links;
  named = named_moved drivers c p h.named;
  routed = routed_moved drivers c p h.routed;
  ordered = rising_moved drivers c p h.ordered;
  numbered = numbered_moved drivers c p h.numbered;
  swept_ = swept_moved drivers c p (record { no_cycle = h.links.no_cycle; named = h.named; swept_ = h.swept_ });
}

-- a move keeps a sound configuration sound
pub moved_sound : (drivers : List DriverSpec) (c : Configuration) (p : Place) → IsSound drivers c
    → IsSound drivers (after_move drivers c p)
moved_sound drivers c p h = of_parts drivers (after_move drivers c p) (parts_moved drivers c p (parts_of drivers c h))

-- settling

-- settling keeps a sound configuration sound, and afterwards no message can move
pub settled_kept : (drivers : List DriverSpec) (c : Configuration) → IsSound drivers c
    → IsKept drivers (after_settling drivers c)
settled_kept drivers c h = let p = parts_of drivers c h in record {
  sound = of_parts drivers (after_settling drivers c)
      (settled_by (Parts drivers) drivers _ c (record { each = parts_moved drivers }) p);
  settled = settled_is drivers c p.links p.named p.routed;
}

-- each command

-- a command keeps a sound and settled configuration so, if its accepted outcome is sound
finished_kept : (drivers : List DriverSpec) (c : Configuration) (o : Outcome) → IsKept drivers c
    → IfOk o (λ x. IsSound drivers x.0) → IsKept drivers (after_outcome drivers c o).0
finished_kept drivers c (Ok x) h k = settled_kept drivers x.0 k
finished_kept drivers c (Err f) h k = h

-- a command keeps a sound and settled configuration sound and settled
pub step_keeps : (drivers : List DriverSpec) (c : Configuration) (process : ℕ) (k : Command) → IsKept drivers c
    → IsKept drivers (step drivers c process k).0
step_keeps drivers c process k h = grind (arith, finished_kept, outcome_sound)

-- the empty configuration is sound and settled, over any drivers
pub empty_kept : (drivers : List DriverSpec) → IsKept drivers empty
empty_kept drivers = record {
  sound = of_parts drivers empty
      (record {
        links = sound_empty;
        named = record { fds = tt; links = tt };
        routed = routed_empty drivers;
        ordered = rising_empty;
        numbered = numbered_empty;
        swept_ = record { links = refl; binds = refl; flow = refl; fulls = refl; hungs = refl };
      });
  settled = λ p. refl;
}

-- after any entries a configuration that was sound and settled still is
after_keeps : (drivers : List DriverSpec) (c : Configuration) (es : List Entry) → IsKept drivers c
    → IsKept drivers (after_from drivers c es)
after_keeps drivers c [] h = h
after_keeps drivers c (e ∷ es) h =
    after_keeps drivers (step drivers c e.process e.command).0 es (step_keeps drivers c e.process e.command h)

-- after any history the configuration is sound and settled
pub always_is_kept : (drivers : List DriverSpec) (history : List Entry) → IsKept drivers (after drivers history)
always_is_kept drivers history = after_keeps drivers empty history (empty_kept drivers)

-- properties of sound configurations

-- without a cycle, and with known controlling streams, a stream exists exactly if it does within some climbs
pub exists_is_stands : (drivers : List DriverSpec) (c : Configuration) (s : StreamId) → AreLinksSound c.links
    → All (λ l. IsKnown drivers l.ctl) c.links → (exists drivers c s ≡ true) ↔ Stands c s
exists_is_stands drivers c s sound known = grind (arith, stands_exists, each_map, recursion_from_All)

-- after any history a stream exists exactly if it does within some number of climbs
pub always_exists_is_stands : (drivers : List DriverSpec) (history : List Entry) (s : StreamId)
    → (exists drivers (after drivers history) s ≡ true) ↔ Stands (after drivers history) s
always_exists_is_stands drivers history s = grind (arith, always_is_kept, exists_is_stands)

-- two sound configurations over valid drivers are equal if their views are
pub view_is_of_one : (drivers : List DriverSpec) (c d : Configuration) → IsDriverList drivers → IsSound drivers c
    → IsSound drivers d → view drivers c ≡ view drivers d → c ≡ d
view_is_of_one drivers c d h k l e = grind (arith, one_configuration, parts_of, each_known)
