-- The hung-up streams that are left when streams cease to exist.
use Rattle.smx_tables.proofs.Common.{◌≡◌, ℕ, ◌≤◌, Bool, true, List, [], ◌∷◌, filter, refl, sym, ap, ◌∙◌, arith, inl}
use Rattle.smx_tables.proofs.Common.{inr, ◌&&◌, ◌||◌, not, subst, list_all, and_parts, or_cases, or_left, false≢true}
use Rattle.smx_tables.proofs.Common.{nat_tests, DriverSpec, Link, Descriptor, StreamId, Configuration, same_stream}
use Rattle.smx_tables.proofs.Common.{is_hung, without_dead_streams, without_links, exists, is_below, is_named}
use Rattle.smx_tables.proofs.Common.{is_persistent, StreamTable, HasHolds, LeavesHungs, number_at, AreHeld}
use Rattle.smx_tables.proofs.Common.{TellsExisting}
use Rattle.std.proofs.Common.{length}
use Rattle.std.proofs.lemmas.Bool.{or_right}
use Rattle.smx_model.specs.Removal.{after_sweep}
use Rattle.smx_streams.specs.StreamTables.{AreHungsSound, exists as is_there}
use Rattle.smx_tables.proofs.AboveLemmas.{stream_is, stream_self}
use Rattle.smx_tables.proofs.ExistingLemmas.{any_weaker, stands_there, there_is}
use Rattle.smx_tables.proofs.RemovalLemmas.{any_kept}
-- a stricter test keeps the same after a weaker one as alone
pub use Rattle.smx_streams.proofs.HungLemmas.{twice as stricter}

-- ---- tests of streams

-- a test that each hung-up stream passes is passed by the whole list
pub pass_all : (p : StreamId → Bool) (xs : List StreamId) → ((x : StreamId) → is_hung xs x ≡ true → p x ≡ true)
    → list_all p xs ≡ true
pass_all p [] h = refl
pass_all p (x ∷ xs) h = grind (arith, h x (or_left _ _ (stream_self x)), stream_self x, pass_all p xs)

-- a test that each hung-up stream passes removes none
pub all_pass : (p : StreamId → Bool) (xs : List StreamId) → ((x : StreamId) → is_hung xs x ≡ true → p x ≡ true)
    → xs ≡ filter p xs
all_pass p [] h = refl
all_pass p (x ∷ xs) h = grind (arith, h x (or_left _ _ (stream_self x)), stream_self x, all_pass p xs)

-- a stream that is left by a test passes it
passed : (p : StreamId → Bool) (xs : List StreamId) (s : StreamId) → is_hung (filter p xs) s ≡ true → p s ≡ true
passed p [] s h = absurd (false≢true h)
passed p (x ∷ xs) s h = grind (arith, stream_is x s, passed p xs s)

-- ---- tables of streams

-- the hung-up streams that are left are in the table
pub left_there : (t u : StreamTable) → LeavesHungs t u → (s : StreamId) → is_hung u.hungs s ≡ true
    → is_there u s ≡ true
left_there t u left s h = passed (is_there u) t.hungs s (sym (ap (λ (hs : List StreamId). is_hung hs s) left) ∙ h)

-- if nothing changes, no hung-up stream is lost
pub none_went : (t : StreamTable) → AreHungsSound t → LeavesHungs t t
none_went t sound = all_pass (is_there t) t.hungs sound.exist

-- after two changes, the hung-up streams that are in the last table are left
pub left_twice : (a b c : StreamTable) → LeavesHungs a b → LeavesHungs b c
    → ((x : StreamId) → is_there c x ≡ true → is_there b x ≡ true) → LeavesHungs a c
left_twice a b c first second h = second ∙ ap (filter (is_there c)) first ∙ stricter (is_there c) (is_there b) a.hungs h

-- a stream that is in the table with fewer holds was in it before
pub there_before : (t u : StreamTable) (s x : StreamId) (n : ℕ) → HasHolds t s n u → n ≤ number_at t.holds s
    → is_there u x ≡ true → is_there t x ≡ true
there_before t u s x n h few there = grind (arith, nat_tests)

-- ---- a sweep, whether or not the table of streams has removed hung-up streams before it

-- if the table has exactly the streams that exist, removing dead streams gives the same result after the table has
-- removed the hung-up streams that are not in it
pub dead_of_left : (drivers : List DriverSpec) (c : Configuration) (t : StreamTable) (hungs : List StreamId)
    → TellsExisting drivers c t → hungs ≡ filter (is_there t) c.hungs
    → without_dead_streams drivers (record c { hungs = hungs }) ≡ without_dead_streams drivers c
dead_of_left drivers c t hungs told left = grind (arith, stricter (exists drivers c) (is_there t) c.hungs)

-- a stream that exists after some links are removed is in the table, while the streams below all links are held
exists_there : (drivers : List DriverSpec) (c : Configuration) (t : StreamTable) (goes : Link → Bool) (x : StreamId)
    → AreHeld c.links t → t.fds ≡ c.fds → exists drivers (without_links c goes) x ≡ true → is_there t x ≡ true
exists_there drivers c t goes x held same up =
    there_is c.links t x held
    ∙ subst (λ (fds : List Descriptor). (is_named fds x || is_below c.links x) ≡ true) (sym same)
    (elim (or_cases (is_named c.fds x) (is_below (filter (λ l. not (goes l)) c.links) x)
    (stands_there c.fds (filter (λ l. not (goes l)) c.links) (length drivers) x up)) [
      | inl a ↦ or_left _ _ a
      | inr b ↦ or_right _ _ (before c.links b)
    ]) where
      before : (ls : List Link) → is_below (filter (λ l. not (goes l)) ls) x ≡ true → is_below ls x ≡ true
      before ls b = any_weaker (λ l. same_stream l.lower x && not (goes l)) (λ l. same_stream l.lower x) ls
          (λ l h. (and_parts (same_stream l.lower x) (not (goes l)) h).0)
          (sym (any_kept (λ l. same_stream l.lower x) (λ l. not (goes l)) ls) ∙ b)

-- a sweep gives the same result after the table has removed the hung-up streams that are not in it
pub sweep_of_left : (drivers : List DriverSpec) (c : Configuration) (t : StreamTable) (hungs : List StreamId)
    → AreHeld c.links t → t.fds ≡ c.fds → c.hungs ≡ filter (is_there t) hungs
    → after_sweep drivers c ≡ after_sweep drivers (record c { hungs = hungs })
sweep_of_left drivers c t hungs held same left =
    let orphaned : Link → Bool = λ l. not (is_persistent l) && not (exists drivers c l.ctl) in
    ap (λ (hs : List StreamId).
    record (after_sweep drivers c) { hungs = filter (exists drivers (without_links c orphaned)) hs }) left
    ∙ ap (λ (hs : List StreamId). record (after_sweep drivers c) { hungs = hs })
    (stricter (exists drivers (without_links c orphaned)) (is_there t) hungs
    (λ x up. exists_there drivers c t orphaned x held same up))
