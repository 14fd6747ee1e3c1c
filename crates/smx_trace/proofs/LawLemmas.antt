-- Laws of traces.
use Rattle.smx_trace.proofs.Common.{rules, Bool, true, refl, sym, ap, ◌∙◌, append_assoc, arith, false, inl, inr, Some}
use Rattle.smx_trace.proofs.Common.{None, Option, Decides, list_any, if◌then◌else◌, cases_Bool, nat_tests, Entry}
use Rattle.smx_trace.proofs.Common.{DriverSpec, Transcript, ConfigView, MessageLine, Change, group_changes}
use Rattle.smx_trace.proofs.Common.{missing_from, same_serial, step, Configuration, QueuedMessage, empty, is_at}
use Rattle.smx_trace.proofs.Common.{after, after_from, view, view_of_bind, view_of_fd, view_of_full, view_of_hung}
use Rattle.smx_trace.proofs.Common.{view_of_link, view_of_message, view_of_route, Wait, wait_at, waits}
use Rattle.smx_trace.proofs.Common.{TranscriptLine, IsReplayOf, same_line, TraceLine, queue_lines}
use Rattle.std.proofs.Common.{◌≡◌, List, [], ◌∷◌, ◌++◌, ℕ, map}
use Rattle.std.proofs.lemmas.List.Elements.{filter_map-append}
use Rattle.smx_types.specs.contracts.view.BindingLinePartialEq.TheImpl as of_bind
use Rattle.smx_types.specs.contracts.view.DescriptorLinePartialEq.TheImpl as of_fd
use Rattle.smx_types.specs.contracts.view.FullLinePartialEq.TheImpl as of_full
use Rattle.smx_types.specs.contracts.view.HungLinePartialEq.TheImpl as of_hung
use Rattle.smx_types.specs.contracts.view.LinkLinePartialEq.TheImpl as of_link
use Rattle.smx_types.specs.contracts.view.RouteLinePartialEq.TheImpl as of_route
use Rattle.smx_types.specs.declared.view.BindingLine.{BindingLine}
use Rattle.smx_types.specs.declared.view.DescriptorLine.{DescriptorLine}
use Rattle.smx_types.specs.declared.view.FullLine.{FullLine}
use Rattle.smx_types.specs.declared.view.HungLine.{HungLine}
use Rattle.smx_types.specs.declared.view.LinkLine.{LinkLine}
use Rattle.smx_types.specs.declared.view.RouteLine.{RouteLine}
use Rattle.smx_model.specs.Changes.{ViewLine, changes}
use Rattle.smx_model.specs.Changes as change
use Rattle.smx_text.specs.TranscriptLines as line
use Rattle.smx_text.specs.TranscriptText.{body, view_body}
use Rattle.smx_trace.specs.Traces.{IsTraceText, config_lines, entry_lines_from, lines_below, plain_lines, trace_lines}
use Rattle.smx_trace.specs.Traces.{trace_text, wait_line}
use Rattle.smx_trace.specs.Traces as trace

-- a transcript has one trace
pub one_trace : ((t r s : Transcript) → IsReplayOf t r → IsReplayOf t s → r ≡ s) → (each : Bool) (t : Transcript)
    (one other : List ℕ) → IsTraceText each t one → IsTraceText each t other → one ≡ other
one_trace determined each t one other h k =
    h.written ∙ ap (trace_text each) (determined t h.replay k.replay h.replays k.replays) ∙ sym k.written

-- ---- equal views

module _ {X : Type 0} (same : X → X → Bool) (itself : (x : X) → same x x ≡ true) where
  -- an element is among others and itself
  among : (ps more : List X) (x : X) → list_any (same x) (ps ++ x ∷ more) ≡ true
  among [] more x = rw (itself x) refl
  among (p ∷ ps) more x = elim (cases_Bool (same x p)) [ inl t ↦ rw t refl | inr f ↦ rw f (among ps more x) ]

  -- the end of a list has no element that the list lacks
  none_of_end : (ps xs ys : List X) → ys ≡ ps ++ xs → missing_from same xs ys ≡ []
  none_of_end ps [] ys e = refl
  none_of_end ps (x ∷ xs) ys e =
      let there : list_any (same x) ys ≡ true = ap (list_any (same x)) e ∙ among ps xs x in
      rw there (none_of_end (ps ++ x ∷ []) xs ys (e ∙ sym (append_assoc ps (x ∷ []) xs)))

  -- a list lacks none of its elements
  pub none_missing : (xs : List X) → missing_from same xs xs ≡ []
  none_missing xs = none_of_end [] xs xs refl

  -- a group has no changes to itself
  no_group_changes : (one : X → ViewLine) (xs : List X) → group_changes same one xs xs ≡ []
  no_group_changes one xs = rw (none_missing xs) refl

-- equal views have no changes
pub no_changes : (v : ConfigView) → changes v v ≡ []
no_changes v = rw (
  no_group_changes of_fd.ghosts.eq fds change.Fd v.fds,
  no_group_changes of_link.ghosts.eq links change.Link v.links,
  no_group_changes of_bind.ghosts.eq binds change.Bind v.binds,
  no_group_changes of_route.ghosts.eq routes change.Route v.routes,
  none_missing same_serial serials v.msgs,
  none_missing same_line msgs v.msgs,
  no_group_changes of_full.ghosts.eq fulls change.Full v.fulls,
  no_group_changes of_hung.ghosts.eq hungs change.Hung v.hungs,
) refl where
  fds : (x : DescriptorLine) → of_fd.ghosts.eq x x ≡ true
  fds x = let tells : Decides (of_fd.ghosts.eq x x) (x ≡ x) = search rules in tells.1 refl

  links : (x : LinkLine) → of_link.ghosts.eq x x ≡ true
  links x = let tells : Decides (of_link.ghosts.eq x x) (x ≡ x) = search rules in tells.1 refl

  binds : (x : BindingLine) → of_bind.ghosts.eq x x ≡ true
  binds x = let tells : Decides (of_bind.ghosts.eq x x) (x ≡ x) = search rules in tells.1 refl

  routes : (x : RouteLine) → of_route.ghosts.eq x x ≡ true
  routes x = let tells : Decides (of_route.ghosts.eq x x) (x ≡ x) = search rules in tells.1 refl

  fulls : (x : FullLine) → of_full.ghosts.eq x x ≡ true
  fulls x = let tells : Decides (of_full.ghosts.eq x x) (x ≡ x) = search rules in tells.1 refl

  hungs : (x : HungLine) → of_hung.ghosts.eq x x ≡ true
  hungs x = let tells : Decides (of_hung.ghosts.eq x x) (x ≡ x) = search rules in tells.1 refl

  msgs : (x : MessageLine) → same_line x x ≡ true
  msgs x = let tells : Decides (same_line x x) (x ≡ x) = search rules in tells.1 refl

  serials : (x : MessageLine) → same_serial x x ≡ true
  serials x = grind (arith, nat_tests)

-- ---- below each entry

-- the lines of entries in two parts
pub below_each : (each : Bool) (drivers : List DriverSpec) (c : Configuration) (before : List Entry) (e : Entry)
    (more : List Entry)
    → entry_lines_from each drivers c (before ++ e ∷ more)
    ≡ entry_lines_from each drivers c before ++ (trace.Plain (line.Entry e)
    ∷ lines_below each drivers (after_from drivers c before) (after_from drivers c (before ++ e ∷ []))
    ++ entry_lines_from each drivers (after_from drivers c (before ++ e ∷ [])) more)
below_each each drivers c [] e more = refl
below_each each drivers c (d ∷ before) e more =
    simp (below_each each drivers (step drivers c d.process d.command).0 before e more, append_assoc)

-- ---- without the lines that are two spaces in

-- the lines of a transcript that are among these
record HavePlain (xs : List TraceLine) (ls : List TranscriptLine) : Type 0 where
  are : plain_lines xs ≡ ls

-- lines with no plain line among them
none : HavePlain [] []
none = record { are = refl }

-- one more plain line in front
front : (l : TranscriptLine) {xs : List TraceLine} {ls : List TranscriptLine} → HavePlain xs ls
    → HavePlain (trace.Plain l ∷ xs) (l ∷ ls)
front l h = record { are = ap (λ (ls : List TranscriptLine). l ∷ ls) h.are }

-- two parts
both : {xs ys : List TraceLine} {a b : List TranscriptLine} → HavePlain xs a → HavePlain ys b
    → HavePlain (xs ++ ys) (a ++ b)
both {xs} {ys} h k = record { are = filter_map-append _ xs ys ∙ rw (h.are, k.are) }

-- the plain lines of a group
plain_group : {X Y : Type 0} (one : Y → TranscriptLine) (shown : X → Y) (xs : List X)
    → HavePlain (map (λ x. trace.Plain (one (shown x))) xs) (map one (map shown xs))
plain_group one shown [] = none
plain_group one shown (x ∷ xs) = front (one (shown x)) (plain_group one shown xs)

-- lines of a transcript are plain
all_plain : {X : Type 0} (f : X → TranscriptLine) (xs : List X)
    → HavePlain (map (λ x. trace.Plain (f x)) xs) (map f xs)
all_plain f [] = none
all_plain f (x ∷ xs) = front (f x) (all_plain f xs)

-- changes are not plain
no_plain_change : (cs : List Change) → HavePlain (map trace.Changed cs) []
no_plain_change [] = none
no_plain_change (c ∷ cs) = record { are = (no_plain_change cs).are }

-- waits are not plain
no_plain_wait : (ws : List Wait) → HavePlain (map trace.Waits ws) []
no_plain_wait [] = none
no_plain_wait (w ∷ ws) = record { are = (no_plain_wait ws).are }

-- nothing below an entry is plain
nothing_below : (each : Bool) (drivers : List DriverSpec) (c d : Configuration)
    → HavePlain (lines_below each drivers c d) []
nothing_below true drivers c d =
    both (no_plain_change (changes (view drivers c) (view drivers d))) (no_plain_wait (waits drivers d))
nothing_below false drivers c d = both (no_plain_change (changes (view drivers c) (view drivers d))) none

-- the plain lines of entries
plain_entries : (each : Bool) (drivers : List DriverSpec) (c : Configuration) (es : List Entry)
    → HavePlain (entry_lines_from each drivers c es) (map line.Entry es)
plain_entries each drivers c [] = none
plain_entries each drivers c (e ∷ es) =
    let d : Configuration = (step drivers c e.process e.command).0 in
    front (line.Entry e) (both (nothing_below each drivers c d) (plain_entries each drivers d es))

-- the wait of a place is not plain
no_plain_wait_line : (drivers : List DriverSpec) (c : Configuration) (h : QueuedMessage) (hs : List QueuedMessage)
    → HavePlain (if list_any (is_at h.place) hs then [] else wait_line drivers c h.place) []
no_plain_wait_line drivers c h hs = by_any (list_any (is_at h.place) hs) where
  by_wait : (o : Option Wait) → HavePlain (elim o [ None ↦ [] | Some w ↦ trace.Waits w ∷ [] ]) []
  by_wait None = none
  by_wait (Some w) = record { are = refl }

  by_any : (b : Bool) → HavePlain (if b then [] else wait_line drivers c h.place) []
  by_any true = none
  by_any false = by_wait (wait_at drivers c h.place)

-- the plain lines of queues
plain_queues : (drivers : List DriverSpec) (c : Configuration) (hs : List QueuedMessage)
    → HavePlain (queue_lines drivers c hs) (map line.Msg (map (view_of_message drivers) hs))
plain_queues drivers c [] = none
plain_queues drivers c (h ∷ hs) =
    front (line.Msg (view_of_message drivers h)) (both (no_plain_wait_line drivers c h hs) (plain_queues drivers c hs))

-- the plain lines of a configuration
plain_config : (drivers : List DriverSpec) (c : Configuration)
    → HavePlain (config_lines drivers c) (line.Config ∷ view_body (view drivers c))
plain_config drivers c =
    front line.Config (front (line.Next c.next_id c.next_serial)
    (both (plain_group line.Fd (view_of_fd drivers) c.fds)
    (both (plain_group line.Link (view_of_link drivers) c.links)
    (both (plain_group line.Bind (view_of_bind drivers) c.binds)
    (both (plain_group line.Route (view_of_route drivers) c.routes) (both (plain_queues drivers c c.flow)
    (both (plain_group line.Full (view_of_full drivers) c.fulls)
    (plain_group line.Hung (view_of_hung drivers) c.hungs))))))))

-- without the lines that are two spaces in, a trace has the lines of the transcript of the replay
pub transcript_lines : (each : Bool) (t r : Transcript) → IsReplayOf t r
    → plain_lines (trace_lines each r.drivers r.entries) ≡ body r ++ line.End ∷ []
transcript_lines each t r h =
    let shown : view r.drivers (after r.drivers r.entries) ≡ r.view =
    ap (λ (ds : List DriverSpec). view ds (after ds r.entries)) h.drivers ∙ sym h.shown in
    (both (all_plain line.Driver r.drivers) (both (plain_entries each r.drivers empty r.entries)
    (both (plain_config r.drivers (after r.drivers r.entries)) (front line.End none)))).are
    ∙ ap (λ (v : ConfigView). map line.Driver r.drivers
    ++ (map line.Entry r.entries ++ ((line.Config ∷ view_body v) ++ line.End ∷ []))) shown
    ∙ ap (λ (ls : List TranscriptLine). map line.Driver r.drivers ++ ls)
    (sym (append_assoc (map line.Entry r.entries) (line.Config ∷ view_body r.view) (line.End ∷ [])))
    ∙ sym (append_assoc (map line.Driver r.drivers) (map line.Entry r.entries ++ line.Config ∷ view_body r.view) _)
