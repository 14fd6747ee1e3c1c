-- The hung-up streams after a change of the records.
use Rattle.smx_model.proofs.Common.{◌≡◌, ℕ, ◌+◌, ◌<◌, Bool, true, false, ◌&&◌, ◌||◌, List, [], ◌∷◌, filter}
use Rattle.smx_model.proofs.Common.{if◌then◌else◌, refl, sym, ap, ◌∙◌, arith, nat_lt}
use Rattle.smx_model.proofs.Common.{false≢true, or_left, nat_tests, Descriptor, StreamId}
use Rattle.smx_model.proofs.Common.{same_stream, stream_before, is_hung, with_hung, IsRising, is_named, rules}
use Rattle.smx_model.proofs.EachLemmas.{later_filter}
use Rattle.smx_model.proofs.HungListLemmas.{hung_kept_by, hung_with, one_list}
use Rattle.smx_model.proofs.RisingLemmas.{rising_with_hung}
use Rattle.smx_streams.specs.HungRows.{flag_at, hungs_from}
use Rattle.smx_streams.specs.RecordGrids.{Uses, AreSet}
use Rattle.smx_streams.specs.StreamTables.{StreamTable, AreHungsSound, HasHolds, HasOneLess, LeavesHungs}
use Rattle.smx_streams.specs.StreamTables.{exists, number_at}
use Rattle.smx_streams.specs.TableFields.{IsWhole, names_of, table_of}
use Rattle.smx_streams.specs.declared.streams.Streams.TheInside.{Inside}
use Rattle.smx_streams.proofs.GridLemmas.{same_is, same_self}
use Rattle.smx_streams.proofs.HungRowLemmas.{flag_tells, hungs_rise}
use Rattle.smx_streams.proofs.NameLemmas.{used_exists}

-- each hung-up stream has at least one descriptor or hold
abbrev AreUsed : Uses → Type 0
AreUsed u = (s : StreamId) → flag_at u.hungs s ≡ true → 0 < number_at u.opens s + number_at u.holds s

-- the first number of each stream is the number of descriptors that name it
abbrev AreNames : Uses → StreamTable → Type 0
AreNames u t = (s : StreamId) → number_at u.opens s ≡ names_of s t.fds

-- the same number at one place
pub same_number : (grid : List (List ℕ)) (x s : StreamId) (n : ℕ) → n ≡ number_at grid s
    → (if same_stream x s then n else number_at grid x) ≡ number_at grid x
same_number grid x s n e = grind (arith, same_is x s)

-- a stream exists exactly if it has at least one descriptor or hold
exists_by : (u : Uses) (t : StreamTable) (x : StreamId) → AreNames u t → t.holds ≡ u.holds
    → exists t x ≡ nat_lt 0 (number_at u.opens x + number_at u.holds x)
exists_by u t x names holds = grind (arith, used_exists t x (number_at u.opens x) (names x), names x)

-- a test that every hung-up stream passes removes none
and_true : (a b : Bool) → (b ≡ true → a ≡ true) → b ≡ (a && b)
and_true true b h = refl
and_true false true h = sym (h refl)
and_true false false h = refl

-- if each hung-up stream has a descriptor or a hold, testing for one in addition to the flag changes nothing
used_stays : (u : Uses) (x : StreamId) → AreUsed u
    → flag_at u.hungs x ≡ (nat_lt 0 (number_at u.opens x + number_at u.holds x) && flag_at u.hungs x)
used_stays u x used = grind (arith, and_true, used x)

-- the remaining hung-up streams as a list
made : (old new : StreamTable) → IsRising stream_before new.hungs → IsRising stream_before old.hungs
    → ((x : StreamId) → is_hung new.hungs x ≡ (exists new x && is_hung old.hungs x)) → LeavesHungs old new
made old new rise was each = grind (arith, one_list, later_filter, hung_kept_by)

-- if the numbers of one stream change, the streams that remain hung up are those that exist
each_left : (u v : Uses) (old new : StreamTable) (s : StreamId) (o h : ℕ)
    → AreSet u s o h (nat_lt 0 (o + h) && flag_at u.hungs s) v → AreUsed u → AreNames v new → new.holds ≡ v.holds
    → new.hungs ≡ hungs_from 0 v.hungs → old.hungs ≡ hungs_from 0 u.hungs → (x : StreamId)
    → is_hung new.hungs x ≡ (exists new x && is_hung old.hungs x)
each_left u v old new s o h set used names holds now was x = grind (arith, flag_tells, exists_by, same_is, used_stays)

-- if the numbers of one stream change, the list of hung-up streams keeps those that exist
pub left : (u v : Uses) (old new : StreamTable) (s : StreamId) (o h : ℕ)
    → AreSet u s o h (nat_lt 0 (o + h) && flag_at u.hungs s) v → AreUsed u → AreNames v new → new.holds ≡ v.holds
    → new.hungs ≡ hungs_from 0 v.hungs → old.hungs ≡ hungs_from 0 u.hungs → LeavesHungs old new
left u v old new s o h set used names holds now was = made old new (rw now (hungs_rise 0 v.hungs))
    (rw was (hungs_rise 0 u.hungs)) (each_left u v old new s o h set used names holds now was)

-- the same if only the holds of one stream change
pub holds_changed : (t : Inside) (v : Uses) (s : StreamId) (h : ℕ)
    → AreSet t.records s (number_at t.records.opens s) h
    (nat_lt 0 (number_at t.records.opens s + h) && flag_at t.records.hungs s) v
    → IsWhole t → HasHolds (table_of t) s h (table_of (record t { records = v }))
holds_changed t v s h set whole =
    grind (
      arith,
      left t.records v (table_of t) (table_of (record t { records = v })) s _ _ set whole.records.hung,
      same_number t.records.opens,
    )

-- if no numbers change, a stream has hung up exactly if it exists and had hung up
each_kept : (u : Uses) (old new : StreamTable) → AreUsed u → AreNames u new → new.holds ≡ u.holds
    → new.hungs ≡ hungs_from 0 u.hungs → old.hungs ≡ new.hungs → (x : StreamId)
    → is_hung new.hungs x ≡ (exists new x && is_hung old.hungs x)
each_kept u old new used names holds now was x = grind (arith, flag_tells, used_stays, exists_by)

-- if no numbers change and the same streams have hung up, all of them exist and remain
pub kept : (u : Uses) (old new : StreamTable) → AreUsed u → AreNames u new → new.holds ≡ u.holds
    → new.hungs ≡ hungs_from 0 u.hungs → old.hungs ≡ new.hungs → LeavesHungs old new
kept u old new used names holds now was = made old new (rw now (hungs_rise 0 u.hungs))
    (rw (was, now) (hungs_rise 0 u.hungs)) (each_kept u old new used names holds now was)

-- if the flag of one stream stays, all flags stay
each_same : (u v : Uses) (s : StreamId) (o h : ℕ) → AreSet u s o h (flag_at u.hungs s) v → (x : StreamId)
    → is_hung (hungs_from 0 v.hungs) x ≡ is_hung (hungs_from 0 u.hungs) x
each_same u v s o h set x = grind (arith, flag_tells v.hungs x, same_is x s, flag_tells u.hungs x)

-- if the numbers of one stream change but not its flag, the same streams have hung up
pub hung_same : (u v : Uses) (s : StreamId) (o h : ℕ) → AreSet u s o h (flag_at u.hungs s) v
    → hungs_from 0 v.hungs ≡ hungs_from 0 u.hungs
hung_same u v s o h set = search (rules, one_list, hungs_rise, each_same)

-- if a stream gets one more hold, the same streams have hung up
pub hung_still : (u v : Uses) (s : StreamId) (o h : ℕ)
    → AreSet u s o (h + 1) (nat_lt 0 (o + (h + 1)) && flag_at u.hungs s) v → hungs_from 0 v.hungs ≡ hungs_from 0 u.hungs
hung_still u v s o h set = grind (arith, hung_same u v s o (h + 1))

-- if the flag of one stream is set, a stream has hung up exactly if it had, or is that one
each_now : (u v : Uses) (s : StreamId) (o h : ℕ) → AreSet u s o h true v → (x : StreamId)
    → is_hung (hungs_from 0 v.hungs) x ≡ (same_stream x s || is_hung (hungs_from 0 u.hungs) x)
each_now u v s o h set x = grind (arith, flag_tells v.hungs x, flag_tells u.hungs x)

-- if the flag of one stream is set, the same streams have hung up, and that one
pub hung_now : (u v : Uses) (s : StreamId) (o h : ℕ) → AreSet u s o h true v
    → hungs_from 0 v.hungs ≡ with_hung s (hungs_from 0 u.hungs)
hung_now u v s o h set = one_list (hungs_from 0 v.hungs) (with_hung s (hungs_from 0 u.hungs)) (hungs_rise 0 v.hungs)
    (rising_with_hung s (hungs_from 0 u.hungs) (hungs_rise 0 u.hungs))
    (λ x. each_now u v s o h set x ∙ ap (λ (b : Bool). b || is_hung (hungs_from 0 u.hungs) x) (turned x s)
    ∙ sym (hung_with s x (hungs_from 0 u.hungs))) where
      turned : (x y : StreamId) → same_stream x y ≡ same_stream y x
      turned x y = grind (arith, nat_tests)

-- the streams whose flags are set are in order and exist
pub are_sound : (t : Inside) → IsWhole t → AreHungsSound (table_of t)
are_sound t whole =
    grind (arith, hungs_rise 0 t.records.hungs, exists_by t.records (table_of t), flag_tells t.records.hungs)

-- if no flag is set, no stream has hung up
pub none_hung : (rows : List (List Bool)) → ((s : StreamId) → flag_at rows s ≡ false) → hungs_from 0 rows ≡ []
none_hung rows h = by (hungs_from 0 rows) (λ s. flag_tells rows s ∙ h s) where
  by : (xs : List StreamId) → ((s : StreamId) → is_hung xs s ≡ false) → xs ≡ []
  by [] k = refl
  by (x ∷ xs) k = absurd (false≢true (sym (k x) ∙ or_left _ _ (same_self x)))

-- closing descriptors one after the other

-- a stream that a remaining descriptor names was named before
named_before : (keep : Descriptor → Bool) (ds : List Descriptor) (s : StreamId) → is_named (filter keep ds) s ≡ true
    → is_named ds s ≡ true
named_before keep [] s h = h
named_before keep (d ∷ ds) s h = grind (arith, named_before keep ds s)

-- a stream that exists after one descriptor is closed existed before
exists_before : (old new : StreamTable) (p n : ℕ) (x : StreamId) → HasOneLess old p n new → exists new x ≡ true
    → exists old x ≡ true
exists_before old new p n x less h = grind (arith, named_before, less.holds x)

-- filtering by a test and then by a stricter one is filtering by the stricter one
pub twice : {X : Type 0} (p q : X → Bool) (xs : List X) → ((x : X) → p x ≡ true → q x ≡ true)
    → filter p (filter q xs) ≡ filter p xs
twice p q [] h = refl
twice p q (x ∷ xs) h = grind (arith, h x, twice p q xs h)

-- after one more descriptor is closed, the hung-up streams are those of the first list that still exist
pub left_again : (old new : StreamTable) (p n : ℕ) (was first : List StreamId) → HasOneLess old p n new
    → was ≡ filter (exists old) first → filter (exists new) was ≡ filter (exists new) first
left_again old new p n was first less e = grind (arith, twice, exists_before)
