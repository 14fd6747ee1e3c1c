-- The streams that a close of descriptors touches, and its outcome.
use Rattle.smx_tables.proofs.Common.{◌≡◌, ℕ, ◌<◌, true, false, not, List, [], ◌∷◌, filter, Some, None, refl, ap, ◌∙◌}
use Rattle.smx_tables.proofs.Common.{arith, rules, list_any, DriverSpec, Reply, Descriptor, StreamId, Configuration}
use Rattle.smx_tables.proofs.Common.{same_stream, after_sweep, serials_that_left, TellsExisting, configuration_of}
use Rattle.smx_tables.proofs.Common.{Inside, Machine, TablesInvariant, machine_of}
use Rattle.smx_tables.proofs.HungLemmas.{sweep_of_left}
use Rattle.std.proofs.Common.{◌+◌, ◌++◌, Ok}
use Rattle.smx_types.specs.declared.limits.TheConstants.{MAX_DESCRIPTORS}
use Rattle.smx_types.specs.declared.reply.Reply.TheVariants.{Done}
use Rattle.smx_model.specs.Configuration.{is_fd}
use Rattle.smx_model.specs.Hangups.{is_hung}
use Rattle.smx_model.specs.Swept.{IsSwept}
use Rattle.smx_model.proofs.DropLemmas.{done_idle}
use Rattle.smx_model.proofs.TestLemmas.{any_push}
use Rattle.smx_streams.specs.StreamTables.{StreamTable, HasOneLess, is_last, stream_at, without_fd}
use Rattle.smx_streams.specs.StreamTables.{exists as is_there}
use Rattle.smx_tables.specs.TouchedStreams.{IsTouched, is_there_or_touched}
use Rattle.smx_tables.specs.Closing.{closing}
use Rattle.smx_tables.proofs.DoneLemmas.{swept_is}
use Rattle.smx_tables.proofs.TablesLemmas.{accepted}
use Rattle.smx_tables.proofs.TouchLemmas.{touched_there, touched_beside, touched_by}
use Rattle.smx_tables.proofs.WatchLemmas.{listed_last}

-- if the stream stays when one of its descriptors is closed, each stream that was in the table still is
pub closed_stays : (t u : StreamTable) (p n : ℕ) → is_last t p n ≡ false → HasOneLess t p n u
    → ((s : StreamId) → is_there t s ≡ true → is_there u s ≡ false → stream_at t.fds p n ≡ Some s)
    → (s : StreamId) → is_there t s ≡ true → is_there_or_touched u [] s ≡ true
closed_stays t u p n stays less went s there = grind (arith, is_there u s, is_there (without_fd t p n) s, went s there)

-- if each stream that was in the table still is, so is each hung-up stream
pub all_stay : (t u : StreamTable) (hungs : List StreamId)
    → ((x : StreamId) → is_hung hungs x ≡ true → is_there t x ≡ true)
    → ((x : StreamId) → is_there t x ≡ true → is_there_or_touched u [] x ≡ true)
    → (x : StreamId) → is_hung hungs x ≡ true → is_there u x ≡ true
all_stay t u hungs there stays x up = touched_there u [] x refl (stays x (there x up))

-- if the stream of a closed descriptor is in a list, each stream that was in the table still is, or is in the list
pub closed_touches : (t u : StreamTable) (p n : ℕ) (s : StreamId) (ss : List StreamId) → stream_at t.fds p n ≡ Some s
    → list_any (same_stream s) ss ≡ true
    → ((x : StreamId) → is_there t x ≡ true → is_there u x ≡ false → stream_at t.fds p n ≡ Some x) → (x : StreamId)
    → is_there t x ≡ true → is_there_or_touched u ss x ≡ true
closed_touches t u p n s ss at one went x there = grind (arith, is_there u x, went x there)

-- if the stream of a closed descriptor is in a list, the list has all streams that may have ceased to exist
pub close_touches : (drivers : List DriverSpec) (old : Configuration) (t u : StreamTable) (p n : ℕ) (s : StreamId)
    (ss : List StreamId) → TellsExisting drivers old t → IsSwept drivers old → stream_at t.fds p n ≡ Some s
    → list_any (same_stream s) ss ≡ true
    → ((x : StreamId) → is_there t x ≡ true → is_there u x ≡ false → stream_at t.fds p n ≡ Some x)
    → IsTouched u ss (record old { fds = u.fds; hungs = u.hungs })
close_touches drivers old t u p n s ss told swept at one went =
    search (rules, touched_beside, touched_by, closed_touches)

-- if the streams of all closed descriptors of a process are in a list, each stream that was in the table still is, or
-- is in the list
pub all_closed_touch : (t u : StreamTable) (p : ℕ) (ss : List StreamId)
    → ((n : ℕ) (s : StreamId) → n < MAX_DESCRIPTORS → stream_at t.fds p n ≡ Some s → list_any (same_stream s) ss ≡ true)
    → ((x : StreamId) → is_there t x ≡ true → is_there u x ≡ false → (n : ℕ) × (n < MAX_DESCRIPTORS)
    × (stream_at t.fds p n ≡ Some x)) → (x : StreamId) → is_there t x ≡ true → is_there_or_touched u ss x ≡ true
all_closed_touch t u p ss named went x there = grind (arith, is_there u x, went x there)

-- ---- the outcome of a close

-- the sweep after a close gives the outcome of the close
pub closes_last : (t : Inside) (m : Machine) (p n : ℕ) (u : StreamTable) (given : List DriverSpec) (d : Configuration)
    (r : Reply) → machine_of t ≡ m → TablesInvariant t → HasOneLess t.lists.streams p n u → given ≡ t.drivers.items
    → d ≡ after_sweep given (record (configuration_of t.lists) { fds = u.fds; hungs = u.hungs })
    → r ≡ Done (serials_that_left t.lists.queues.flow d.flow)
    → (t.drivers.items ≡ m.drivers) × (closing m.drivers m.configuration p n ≡ Ok (d, r))
closes_last t m p n u given d r e kept less same is left =
    let old = configuration_of t.lists in
    let swept : Configuration = record old { fds = u.fds; hungs = u.hungs } in
    accepted t m d (λ x. closing x.drivers x.configuration p n) r e
    (swept_is t.drivers.items given old (record old { fds = filter (λ f. not (is_fd p n f)) old.fds }) swept d r same is
    (sweep_of_left t.drivers.items swept u old.hungs (λ s. less.holds s ∙ kept.kept.held s) refl less.hungs
    ∙ ap (λ (fs : List Descriptor). after_sweep t.drivers.items (record old { fds = fs })) less.fds) left)

-- a close that leaves nothing to sweep removes only the descriptor, and drops no message
pub closes_shared : (drivers : List DriverSpec) (c : Configuration) (process fd : ℕ) (fds : List Descriptor)
    (new : Configuration) (r : Reply) → IsSwept drivers (record c { fds = fds })
    → fds ≡ filter (λ d. not (is_fd process fd d)) c.fds → new ≡ record c { fds = fds } → r ≡ Done []
    → closing drivers c process fd ≡ Ok (new, r)
closes_shared drivers c process fd fds new r swept e is none = grind (arith, done_idle)

-- ---- the streams of a process's descriptors

-- the list has the streams of all descriptors of the process with numbers below k
abbrev pub AreNamed : List Descriptor → ℕ → ℕ → List StreamId → Type 0
AreNamed fds p k ss = (n : ℕ) (s : StreamId) → n < k → stream_at fds p n ≡ Some s → list_any (same_stream s) ss ≡ true

-- a list with one more stream covers the next number, whose descriptor names this stream
pub one_named_more : (fds : List Descriptor) (p k : ℕ) (t : StreamId) (ss : List StreamId) → stream_at fds p k ≡ Some t
    → AreNamed fds p k ss → AreNamed fds p (k + 1) (ss ++ t ∷ [])
one_named_more fds p k t ss at h = grind (arith, any_push, listed_last ss t)

-- the same list covers the next number, if there is no descriptor with this number
pub none_named_more : (fds : List Descriptor) (p k : ℕ) (ss : List StreamId) → stream_at fds p k ≡ None
    → AreNamed fds p k ss → AreNamed fds p (k + 1) ss
none_named_more fds p k ss at h = grind arith
