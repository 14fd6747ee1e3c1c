-- The places that commands free.
use Rattle.smx_model.proofs.Common.{◌≡◌, ℕ, Bool, true, false, ◌&&◌, not, cond, List, [], filter, None, refl, rules}
use Rattle.smx_model.proofs.Common.{sym, ap, ◌∙◌, inl, inr, ◌⊎◌, slice_get, IfOk, list_any, false≢true, Command}
use Rattle.smx_model.proofs.Common.{DriverSpec, Link, LinkKind, Message, Descriptor, Place, StreamId, outcome}
use Rattle.smx_model.proofs.Common.{done_outcome, link_outcome, send_outcome, receive_outcome, with_fd, Configuration}
use Rattle.smx_model.proofs.Common.{QueuedMessage, same_place, FreesOnly, IsSound, live_stream, after_arrival}
use Rattle.smx_model.proofs.Common.{after_leaving, first_message, is_full, queue, after_sweep, is_read_below}
use Rattle.smx_model.proofs.Common.{without_links, without_queues_at, nowhere, exists, is_persistent, IsSwept, arith}
use Rattle.smx_types.specs.declared.command.Command.TheVariants as command
use Rattle.smx_model.specs.FreedPlaces.{freed_by, is_empty_at, is_side_of}
use Rattle.smx_model.proofs.DropLemmas.{mux_exists, hung_swept}
use Rattle.smx_model.proofs.IdleSweepLemmas.{swept_idle}
use Rattle.smx_model.proofs.AcceptedLemmas.{unlinked}
use Rattle.smx_model.proofs.OutcomeLemmas.{IfAccepted, if_ok, at_ok, after_ok, after_test, after_some, after_choice}
use Rattle.smx_model.proofs.QueueLemmas.{emptied_full, emptied_queue, front_is}
use Rattle.smx_model.proofs.TestLemmas.{all_filter, all_placed}
use Rattle.smx_model.proofs.TurningCommandLemmas.{at_stream}
use Rattle.smx_model.proofs.FeederLemmas.{arrived_more, left_keeps}
use Rattle.smx_model.proofs.SweptLemmas.{leaf_exists}

-- ---- the places that a change frees

-- nothing holds and does not hold
pub never_freed : (b : Bool) → (b && not b) ≡ true → ⊥
never_freed true h = false≢true h
never_freed false h = false≢true h

-- if the full places are the same, none is freed
same_frees : (c d : Configuration) (t : Place → Bool) → d.fulls ≡ c.fulls → FreesOnly c d t
same_frees c d t e p h = grind (arith, never_freed (is_full c p))

-- if each full place other than these stays full, only these are freed
frees_by : (c d : Configuration) (t : Place → Bool)
    → ((p : Place) → t p ≡ false → is_full c p ≡ true → is_full d p ≡ true) → FreesOnly c d t
frees_by c d t f p h = grind (arith, f p)

-- an arrival frees no place
frees_at_arrival : (drivers : List DriverSpec) (c : Configuration) (p : Place) (m : Message) (n : ℕ)
    → FreesOnly c (record (after_arrival drivers c p m) { next_serial = n }) nowhere
frees_at_arrival drivers c p m n = search (rules, frees_by, arrived_more)

-- when a message leaves, only its place may stop being full
frees_at_leaving : (drivers : List DriverSpec) (c : Configuration) (p : Place)
    → FreesOnly c (after_leaving drivers c p) (same_place p)
frees_at_leaving drivers c p = search (rules, frees_by, left_keeps)

-- when some places are emptied, only these may stop being full
frees_emptied : (c : Configuration) (goes : Place → Bool) → FreesOnly c (without_queues_at c goes) goes
frees_emptied c goes = frees_by c (without_queues_at c goes) goes (λ q n h. emptied_full c.fulls goes q ∙ rw n h)

-- ---- changes that free only places that they empty

-- each place is as full as before, with the same first message, or it is empty
abbrev pub KeepsOrEmpties : Configuration → Configuration → Type 0
KeepsOrEmpties c d = (q : Place) → ((is_full d q ≡ is_full c q) × (first_message d.flow q ≡ first_message c.flow q))
    ⊎ (first_message d.flow q ≡ None)

-- two changes that each keep or empty each place do so together
pub keeps_then : (c d e : Configuration) → KeepsOrEmpties c d → KeepsOrEmpties d e → KeepsOrEmpties c e
keeps_then c d e f g q = grind (arith, f q, g q)

-- emptying some places keeps or empties each place
pub emptied_keeps : (c d : Configuration) (goes : Place → Bool) → d.flow ≡ filter (λ h. not (goes h.place)) c.flow
    → d.fulls ≡ filter (λ p. not (goes p)) c.fulls → KeepsOrEmpties c d
emptied_keeps c d goes e f q = by (goes q) refl where
  queues : (b : Bool) → goes q ≡ b → queue d.flow q ≡ cond b [] (queue c.flow q)
  queues b g = ap (λ (hs : List QueuedMessage). queue hs q) e
      ∙ (emptied_queue c.flow goes q ∙ ap (λ (x : Bool). cond x [] (queue c.flow q)) g)

  marks : (b : Bool) → goes q ≡ b → is_full d q ≡ cond b false (is_full c q)
  marks b g = ap (λ (ps : List Place). list_any (same_place q) ps) f
      ∙ (emptied_full c.fulls goes q ∙ ap (λ (x : Bool). cond x false (is_full c q)) g)

  by : (b : Bool) → goes q ≡ b → ((is_full d q ≡ is_full c q) × (first_message d.flow q ≡ first_message c.flow q))
      ⊎ (first_message d.flow q ≡ None)
  by true g = inr (front_is d.flow q ∙ ap (λ (ms : List Message). slice_get ms 0) (queues true g))
  by false g = inl (
    marks false g,
    front_is d.flow q
        ∙ (ap (λ (ms : List Message). slice_get ms 0) (queues false g) ∙ sym (front_is c.flow q)),
  )

-- removing links keeps or empties each place
pub removed_keeps : (c : Configuration) (goes : Link → Bool) → KeepsOrEmpties c (without_links c goes)
removed_keeps c goes = emptied_keeps c (without_links c goes) (is_read_below (filter goes c.links)) refl refl

-- a sweep keeps or empties each place
pub swept_keeps : (drivers : List DriverSpec) (c : Configuration) → KeepsOrEmpties c (after_sweep drivers c)
swept_keeps drivers c = keeps_then c (without_links c loose) (after_sweep drivers c) (removed_keeps c loose)
    (emptied_keeps (without_links c loose) (after_sweep drivers c)
    (λ p. not (exists drivers (without_links c loose) p.stream)) refl refl) where
      loose : Link → Bool
      loose l = not (is_persistent l) && not (exists drivers c l.ctl)

-- a change that keeps or empties each place frees only places that are empty afterwards
frees_empty : (c d : Configuration) → KeepsOrEmpties c d → FreesOnly c d (is_empty_at d)
frees_empty c d h p freed = grind (arith, h p, never_freed (is_full c p))

-- ---- the rows of the command table

-- if a change leaves nothing to sweep, its sweep frees no more places
frees_done : (drivers : List DriverSpec) (c new : Configuration) (t : Place → Bool) → IsSwept drivers new
    → FreesOnly c new t → IfAccepted (λ d r. FreesOnly c d t) (done_outcome drivers c new)
frees_done drivers c new t clean h = grind (arith, swept_idle drivers new clean)

-- if a change leaves nothing to sweep, and the same full places, it frees none with its sweep
frees_still : (drivers : List DriverSpec) (c new : Configuration) → IsSwept drivers new → new.fulls ≡ c.fulls
    → IfAccepted (λ d r. FreesOnly c d nowhere) (done_outcome drivers c new)
frees_still drivers c new clean e = frees_done drivers c new nowhere clean (same_frees c new nowhere e)

-- a flush frees only the places that it empties
frees_flush : (drivers : List DriverSpec) (c : Configuration) (goes : Place → Bool) → IsSwept drivers c
    → IfAccepted (λ d r. FreesOnly c d goes) (done_outcome drivers c (without_queues_at c goes))
frees_flush drivers c goes h = frees_done drivers c (without_queues_at c goes) goes (search (all_filter, rules))
    (frees_emptied c goes)

-- when descriptors are closed, only places that are empty after the sweep stop being full
frees_closed : (drivers : List DriverSpec) (c : Configuration) (fds : List Descriptor)
    → IfAccepted (λ d r. FreesOnly c d (is_empty_at d)) (done_outcome drivers c (record c { fds = fds }))
frees_closed drivers c fds = search (rules, frees_empty, swept_keeps)

-- when links are removed, only places that are empty after the sweep stop being full
frees_removed : (drivers : List DriverSpec) (c : Configuration) (goes : Link → Bool)
    → IfAccepted (λ d r. FreesOnly c d (is_empty_at d)) (done_outcome drivers c (without_links c goes))
frees_removed drivers c goes = grind (arith, removed_keeps c goes, swept_keeps drivers (without_links c goes))

-- one more descriptor frees no place
frees_with_fd : (drivers : List DriverSpec) (c : Configuration) (process fd : ℕ) (s : StreamId)
    → FreesOnly c (with_fd c process fd s) nowhere
frees_with_fd drivers c process fd s = same_frees c (with_fd c process fd s) nowhere refl

-- other links and another next id free no place
frees_new_link : (c : Configuration) (links : List Link) (next : ℕ)
    → FreesOnly c (record c { links = links; next_id = next }) nowhere
frees_new_link c links next = same_frees c (record c { links = links; next_id = next }) nowhere refl

-- making a link frees no place
frees_linked : (drivers : List DriverSpec) (c : Configuration) (process fd arg : ℕ) (k : LinkKind)
    → IfAccepted (λ d r. FreesOnly c d nowhere) (link_outcome drivers c process fd arg k)
frees_linked drivers c process fd arg k = search (after_ok, after_test, at_ok, frees_new_link, rules) depth 24

-- sending a message frees no place
frees_sent : (drivers : List DriverSpec) (c : Configuration) (p : Place) (addr : ℕ) (bytes : List ℕ)
    → IfAccepted (λ d r. FreesOnly c d nowhere) (send_outcome drivers c p addr bytes)
frees_sent drivers c p addr bytes = search (rules, after_test, at_ok, frees_at_arrival)

-- delivering a message frees at most its own place
frees_received : (drivers : List DriverSpec) (c : Configuration) (p : Place)
    → IfAccepted (λ d r. FreesOnly c d (same_place p)) (receive_outcome drivers c p)
frees_received drivers c p = search (after_some, at_ok, frees_at_leaving, rules) depth 12

-- an accepted command, from a swept configuration, frees only places of `freed_by`
frees : (drivers : List DriverSpec) (c : Configuration) (process : ℕ) (k : Command) → IsSwept drivers c
    → IfAccepted (λ d r. FreesOnly c d (freed_by drivers c process k d)) (outcome drivers c process k)
frees drivers c process (command.OpenClone name) h = search (after_ok, at_ok, frees_with_fd drivers, rules) depth 20
frees drivers c process (command.OpenMinor name minor) h = grind (arith, after_test, after_ok, at_ok, frees_with_fd)
frees drivers c process (command.Dup fd) h = search (after_ok, at_ok, frees_with_fd drivers, rules) depth 20
frees drivers c process (command.Close fd) h = search (after_ok, frees_closed, rules) depth 20
frees drivers c process command.CloseAll h = frees_closed drivers c _
frees drivers c process (command.Link fd arg) h = search (frees_linked, rules) depth 20
frees drivers c process (command.Plink fd arg) h = search (frees_linked, rules) depth 20
frees drivers c process (command.Unlink fd w) h = search (after_ok, unlinked, frees_removed, rules) depth 20
frees drivers c process (command.Punlink fd w) h = search (after_ok, unlinked, frees_removed, rules) depth 20
frees drivers c process (command.Bind fd addr) h =
    search (after_test, after_ok, frees_still, all_placed, mux_exists, rules) depth 20
frees drivers c process (command.Unbind fd) h = grind (arith, after_test, after_ok, frees_still, all_filter)
frees drivers c process (command.Route fd addr id) h = search (after_test, after_ok, frees_still, rules) depth 20
frees drivers c process (command.Unroute fd addr) h = search (after_test, after_ok, frees_still, rules) depth 20
frees drivers c process (command.Write fd addr bytes) h = search (after_ok, frees_sent, rules) depth 20
frees drivers c process (command.Read fd) h = grind (arith, at_stream, after_choice, at_ok, same_frees, frees_received)
frees drivers c process (command.Flush fd w) h =
    search (at_stream (FreesOnly c) (live_stream c process fd) (λ s. is_side_of s w), frees_flush, rules) depth 20
frees drivers c process (command.Inject name minor addr bytes) h = search (after_ok, frees_sent, rules) depth 20
frees drivers c process (command.Transmit name minor) h = grind (arith, at_stream, frees_received)
frees drivers c process (command.Hangup name minor) h = grind (arith, after_ok, frees_still, hung_swept, leaf_exists)

-- the same with the outcome's clauses, from a sound configuration
pub few_freed : (drivers : List DriverSpec) (c : Configuration) (process : ℕ) (k : Command) → IsSound drivers c
    → IfOk (outcome drivers c process k) (λ x. FreesOnly c x.0 (freed_by drivers c process k x.0))
few_freed drivers c process k h = grind (arith, if_ok, frees drivers c process k h.swept)
