-- The streams that exist are those in the table of streams: named by a descriptor, or held.
use Rattle.smx_tables.proofs.Common.{◌≡◌, ℕ, zero, suc, ◌+◌, ◌<◌, ◌≤◌, Bool, true, false, ◌||◌, List, [], ◌∷◌, find}
use Rattle.smx_tables.proofs.Common.{Option, Some, None, ◌++◌, refl, sym, ap, subst, ◌∙◌, arith, rules, or-false}
use Rattle.smx_tables.proofs.Common.{nat_lt, All, AllByRecursion, list_all, false≢true, nat_tests, list_any-append}
use Rattle.smx_tables.proofs.Common.{recursion_from_All, DriverSpec, Link, Descriptor, StreamId, Configuration}
use Rattle.smx_tables.proofs.Common.{same_stream, IsKnown, AreLowersApart, each_find, AreLinksSound, exists, is_below}
use Rattle.smx_tables.proofs.Common.{is_named, is_persistent, stands_within, StreamTable, HasHolds, number_at}
use Rattle.smx_tables.proofs.Common.{AreHeld, TellsExisting, is_held}
use Rattle.std.proofs.Common.{length, Ok}
use Rattle.std.specs.Option.{is_some, option_map, ok_or}
use Rattle.std.proofs.lemmas.List.{get_or_default}
use Rattle.std.proofs.lemmas.Option.{same_Some}
use Rattle.smx_types.specs.declared.link.LinkKind.{LinkKind}
use Rattle.smx_types.specs.declared.reply.Fault.TheVariants.{BadDescriptor}
use Rattle.smx_model.specs.Configuration.{is_fd}
use Rattle.smx_model.specs.Paths.{HasNoCycle, reaches}
use Rattle.smx_model.proofs.EachLemmas.{each_both}
use Rattle.smx_model.proofs.TestLemmas.{find_passes}
use Rattle.smx_links.proofs.LowerLemmas.{any_found}
use Rattle.smx_model.proofs.KeptLemmas.{exists_is_stands}
use Rattle.smx_model.proofs.PathLemmas.{reaches_at}
use Rattle.smx_model.proofs.SettlingLemmas.{count, up_less}
use Rattle.smx_streams.specs.StreamTables.{stream_at, exists as is_there}
use Rattle.smx_tables.specs.ExistingStreams.{holds_of}
use Rattle.smx_links.specs.LinkLists.{LinkList, IsLinked, refusal, with_link}
use Rattle.smx_tables.proofs.AboveLemmas.{stream_is, stream_self, stream_turned}
use Rattle.smx_tables.proofs.ClimbLemmas.{named_stands, stands_by, stands_is}
-- all items, or any, that pass a test pass each weaker one; and if all items pass, all items of a filtered list do
pub use Rattle.smx_model.proofs.TestLemmas.{all_filter as all_fewer, all_more as all_weaker, any_more as any_weaker}

-- ---- tests

-- if the controlling stream of each ordinary link passes a test, it passes each weaker test
pub linked_weaker : (f g : StreamId → Bool) (ls : List Link) → ((s : StreamId) → f s ≡ true → g s ≡ true)
    → list_all (λ l. is_persistent l || f l.ctl) ls ≡ true → list_all (λ l. is_persistent l || g l.ctl) ls ≡ true
linked_weaker f g ls on = grind (arith, all_weaker)

-- two tests that imply each other are equal
pub same_test : (a b : Bool) → (a ≡ true → b ≡ true) → (b ≡ true → a ≡ true) → a ≡ b
same_test true b f g = sym (f refl)
same_test false true f g = g refl
same_test false false f g = refl

-- ---- a stream that exists is named, or below a link

-- a descriptor names the stream that a look-up of it returns
pub named_stream : (process fd : ℕ) (fds : List Descriptor) (s : StreamId)
    → option_map (λ (d : Descriptor). d.stream) (find (is_fd process fd) fds) ≡ Some s → is_named fds s ≡ true
named_stream process fd [] s h = absurd cc
named_stream process fd (d ∷ ds) s h = grind (arith, same_Some d.stream s, stream_self s, named_stream process fd ds s)

-- a stream that exists within n climbs is named by a descriptor, or is below a link
pub stands_there : (fds : List Descriptor) (links : List Link) (n : ℕ) (s : StreamId)
    → stands_within fds links n s ≡ true → (is_named fds s || is_below links s) ≡ true
stands_there fds links zero s h = grind (arith, any_weaker)
stands_there fds links (suc n) s h = grind (arith, stands_there fds links n s, any_weaker)

-- ---- a climb reaches a driver to which fewer drivers lead

-- the number of drivers that lead to this driver
abbrev height : List DriverSpec → List Link → ℕ → ℕ
height drivers links d = count (λ x. reaches links x d) (length drivers)

-- fewer drivers lead to the upper driver of this link than to its lower one
abbrev ClimbsToFewer : List DriverSpec → List Link → Link → Type 0
ClimbsToFewer drivers links l = height drivers links l.ctl.driver < height drivers links l.lower.driver

-- if there is no cycle, fewer drivers lead to the upper driver of each link than to its lower one
climbs_to_fewer : (drivers : List DriverSpec) (links : List Link) → HasNoCycle links
    → All (λ l. IsKnown drivers l.ctl) links → All (ClimbsToFewer drivers links) links
climbs_to_fewer drivers links none known = search (rules, up_less, reaches_at, get_or_default)

-- ---- a stream in the table exists

-- if the lower stream of the link is held and the link is ordinary, its controlling stream is in the table
abbrev pub IsTight : StreamTable → Link → Type 0
IsTight t l = is_held t l ≡ true → is_persistent l ≡ false → is_there t l.ctl ≡ true

-- each held stream is below a link
abbrev pub IsHeldBelow : List Link → StreamTable → Type 0
IsHeldBelow links t = (s : StreamId) → nat_lt 0 (number_at t.holds s) ≡ true → is_below links s ≡ true

-- there is a link above a held stream; it is persistent, or its controlling stream is in the table; and fewer drivers
-- lead to its upper driver than to that of the stream
above_held : (drivers : List DriverSpec) (links : List Link) (t : StreamTable) (s : StreamId) → IsHeldBelow links t
    → AllByRecursion (λ l. IsTight t l × ClimbsToFewer drivers links l) links → nat_lt 0 (number_at t.holds s) ≡ true
    → (l : Link) × (find (λ k. same_stream k.lower s) links ≡ Some l)
    × (is_persistent l ≡ false → is_there t l.ctl ≡ true)
    × (height drivers links l.ctl.driver < height drivers links s.driver)
above_held drivers links t s below h held = by (find (λ k. same_stream k.lower s) links) refl where
  by : (o : Option Link) → find (λ k. same_stream k.lower s) links ≡ o → (l : Link) × (o ≡ Some l)
      × (is_persistent l ≡ false → is_there t l.ctl ≡ true)
      × (height drivers links l.ctl.driver < height drivers links s.driver)
  by None e =
      absurd (false≢true (ap is_some (sym e) ∙ any_found (λ k. same_stream k.lower s) links ∙ below s held))
  by (Some l) e =
      let same = stream_is l.lower s (find_passes _ links l e) in
      let p = each_find _ _ links l e h in (
        l,
        refl,
        p.0 (ap (λ (x : StreamId). nat_lt 0 (number_at t.holds x)) same ∙ held),
        subst (λ (x : StreamId). height drivers links l.ctl.driver < height drivers links x.driver) same p.1,
      )

-- a stream in the table exists within n climbs, if n is at least the number of drivers that lead to its driver
there_stands_within : (drivers : List DriverSpec) (links : List Link) (t : StreamTable) (n : ℕ) (s : StreamId)
    → AreLowersApart links → IsHeldBelow links t
    → AllByRecursion (λ l. IsTight t l × ClimbsToFewer drivers links l) links
    → height drivers links s.driver ≤ n → is_there t s ≡ true → stands_within t.fds links n s ≡ true
there_stands_within drivers links t zero s apart up h few there = grind (arith, named_stands, above_held)
there_stands_within drivers links t (suc n) s apart up h few there =
    grind (
      arith,
      named_stands t.fds links (suc n) s,
      above_held drivers links t s up h,
      stands_is t.fds links (suc n) s apart,
      stands_by t.fds links (suc n),
      there_stands_within drivers links t n,
    )

-- a stream in the table exists
pub there_exists : (drivers : List DriverSpec) (c : Configuration) (t : StreamTable) (s : StreamId)
    → AreLinksSound c.links → All (λ l. IsKnown drivers l.ctl) c.links
    → t.fds ≡ c.fds → IsHeldBelow c.links t → AllByRecursion (IsTight t) c.links → is_there t s ≡ true
    → exists drivers c s ≡ true
there_exists drivers c t s sound known same up h there =
    let n = height drivers c.links s.driver in
    let fewer = recursion_from_All _ c.links (climbs_to_fewer drivers c.links sound.no_cycle known) in
    let within = there_stands_within drivers c.links t n s sound.lowers up (each_both _ _ c.links h fewer) (omega arith)
    there in
    (exists_is_stands drivers c s sound known).1
    (record {
      climbs = n;
      within = subst (λ (fds : List Descriptor). stands_within fds c.links n s ≡ true) same within;
    })

-- ---- the table, if each stream below a link is held

-- a stream is held exactly if it is below a link
pub held_is_below : (links : List Link) (t : StreamTable) (s : StreamId) → AreHeld links t
    → nat_lt 0 (number_at t.holds s) ≡ is_below links s
held_is_below links t s h = rw (h s) (grind (arith, nat_tests))

-- a stream is in the table exactly if a descriptor names it or it is below a link
pub there_is : (links : List Link) (t : StreamTable) (s : StreamId) → AreHeld links t
    → is_there t s ≡ (is_named t.fds s || is_below links s)
there_is links t s h = ap (λ (b : Bool). is_named t.fds s || b) (held_is_below links t s h)

-- if the controlling stream of each ordinary link is in the table, so is that of each one whose lower stream is held
all_linked : (t : StreamTable) (ls : List Link) → list_all (λ l. is_persistent l || is_there t l.ctl) ls ≡ true
    → AllByRecursion (IsTight t) ls
all_linked t [] h = tt
all_linked t (l ∷ ls) h = grind (arith, nat_tests, all_linked t ls)

-- if the controlling stream of each ordinary link is in the table, and each stream below a link is held, the streams in
-- the table are those that exist
pub tells_existing : (drivers : List DriverSpec) (c : Configuration) (t : StreamTable)
    → AreLinksSound c.links → All (λ l. IsKnown drivers l.ctl) c.links
    → t.fds ≡ c.fds → AreHeld c.links t → list_all (λ l. is_persistent l || is_there t l.ctl) c.links ≡ true
    → TellsExisting drivers c t
tells_existing drivers c t sound known same held linked =
    grind (arith, same_test, there_exists, held_is_below, all_linked, there_is, stands_there)

-- if the controlling stream of each ordinary link exists, it is in the table
pub swept_is_linked : (drivers : List DriverSpec) (c : Configuration) (t : StreamTable) → t.fds ≡ c.fds
    → AreHeld c.links t → list_all (λ l. is_persistent l || exists drivers c l.ctl) c.links ≡ true
    → list_all (λ l. is_persistent l || is_there t l.ctl) c.links ≡ true
swept_is_linked drivers c t same held h =
    linked_weaker (exists drivers c) (is_there t) c.links
    (λ s o. there_is c.links t s held
    ∙ subst (λ (fds : List Descriptor). (is_named fds s || is_below c.links s) ≡ true) (sym same)
    (stands_there c.fds c.links (length drivers) s o)) h

-- ---- one more link

-- a stream has at most one hold
pub holds_few : (links : List Link) (s : StreamId) → holds_of links s ≤ 1
holds_few links s = grind (arith, nat_tests)

-- with one more link, its lower stream is below a link too, and no other stream changes
below_more : (links : List Link) (l : Link) (s : StreamId)
    → is_below (links ++ l ∷ []) s ≡ (is_below links s || same_stream l.lower s)
below_more links l s = grind (arith, list_any-append, or-false (same_stream l.lower s))

-- a new link is refused if its lower stream is below a link already
pub not_below_yet : (t : LinkList) (ctl lower : StreamId) (id : ℕ) → IsLinked (refusal t ctl lower) t (Ok id)
    → is_below t.links lower ≡ false
not_below_yet t ctl lower id h = grind arith

-- if a link is added above a stream that was below none, and this stream gets one more hold, all streams below links
-- are held
pub held_by_one_more : (old : LinkList) (new : LinkList) (ctl lower : StreamId) (kind : LinkKind) (t u : StreamTable)
    → is_below old.links lower ≡ false → new ≡ with_link old ctl lower kind
    → AreHeld old.links t → HasHolds t lower (number_at t.holds lower + 1) u → AreHeld new.links u
held_by_one_more old new ctl lower kind t u free is held h = grind (arith, below_more old.links, stream_turned lower)

-- the stream of a descriptor is in the table
pub fd_is_there : (t : StreamTable) (process fd : ℕ) (s : StreamId)
    → ok_or (stream_at t.fds process fd) BadDescriptor ≡ Ok s → is_there t s ≡ true
fd_is_there t process fd s h = grind (arith, named_stream process fd t.fds s)
