-- The commands that drop messages.
use Rattle.smx_model.proofs.Common.{◌≡◌, ℕ, Bool, true, false, not, eqb, List, [], ◌∷◌, filter, Ok, refl, sym, ap, ◌∙◌}
use Rattle.smx_model.proofs.Common.{list_any, list_all, and_parts, and_from, or_left, eq-eqb, AllByRecursion}
use Rattle.smx_model.proofs.Common.{All-from_recursion, Command, Entry, DriverSpec, StreamId, step}
use Rattle.smx_model.proofs.Common.{done_outcome, Configuration, QueuedMessage, empty, stream_before, IsLegal}
use Rattle.smx_model.proofs.Common.{IsLegalFrom, IsKept, dropped_by, AreDropsAllowed, mux_stream, in_rising_order}
use Rattle.smx_model.proofs.Common.{Outcome, serials_that_left, serials, exists, IsSwept, is_hung, with_hung, arith}
use Rattle.smx_types.specs.declared.reply.Reply.TheVariants.{Done}
use Rattle.smx_model.specs.LawfulHistories.{may_drop}
use Rattle.smx_model.proofs.IdleSweepLemmas.{swept_idle}
use Rattle.smx_model.proofs.KeptLemmas.{empty_kept, step_keeps}
use Rattle.smx_model.proofs.AcceptedLemmas.{of_rows, at_none}
use Rattle.smx_model.proofs.LookupLemmas.{tested}
use Rattle.smx_model.proofs.OutcomeLemmas.{IfAccepted, at_ok}
use Rattle.smx_model.proofs.SweptLemmas.{free_exists, leaf_exists}
use Rattle.smx_model.proofs.TestLemmas.{all_filter, all_placed}

-- if all numbers are in a list, none is left without those of the list
all_there : (ms ns : List ℕ) → list_all (λ n. list_any (λ m. eqb n m) ms) ns ≡ true
    → filter (λ n. not (list_any (λ m. eqb n m) ms)) ns ≡ []
all_there ms [] h = refl
all_there ms (n ∷ ns) h = let p = and_parts (list_any (λ m. eqb n m) ms) _ h in rw p.0 (all_there ms ns p.1)

-- numbers that are all in a list are all in it with one more at the front
in_more : (m : ℕ) (ms ns : List ℕ) → list_all (λ n. list_any (λ k. eqb n k) ms) ns ≡ true
    → list_all (λ n. list_any (λ k. eqb n k) (m ∷ ms)) ns ≡ true
in_more m ms [] h = refl
in_more m ms (n ∷ ns) h = grind (arith, in_more m ms ns)

-- the numbers of a list are all in it
in_itself : (ns : List ℕ) → list_all (λ n. list_any (λ k. eqb n k) ns) ns ≡ true
in_itself [] = refl
in_itself (n ∷ ns) = and_from _ _ (or_left _ _ (eq-eqb n n refl)) (in_more n ns ns (in_itself ns))

-- no serial has left an unchanged flow
none_gone : (flow : List QueuedMessage) → serials_that_left flow flow ≡ []
none_gone flow = ap in_rising_order (all_there (serials flow) (serials flow) (in_itself (serials flow)))

-- a change that leaves nothing to sweep and keeps the flow is done with no message dropped
pub done_idle : (drivers : List DriverSpec) (c new : Configuration) → IsSwept drivers new → new.flow ≡ c.flow
    → done_outcome drivers c new ≡ Ok (new, Done [])
done_idle drivers c new clean same = grind (arith, swept_idle drivers new clean, none_gone c.flow)

-- if an outcome is accepted, it names no dropped messages
abbrev DropsNone : Outcome → Type 0
DropsNone o = IfAccepted (λ d r. dropped_by r ≡ []) o

-- a change that leaves nothing to sweep and keeps the flow names no dropped message
idle_drops : (drivers : List DriverSpec) (c d : Configuration) → IsSwept drivers d → d.flow ≡ c.flow
    → DropsNone (done_outcome drivers c d)
idle_drops drivers c d clean same = rw (done_idle drivers c d clean same) (at_ok _ d (Done []) refl)

-- a multiplexer's stream that a descriptor names, and that is not linked below, exists
pub mux_exists : (drivers : List DriverSpec) (c : Configuration) (process fd : ℕ) (s : StreamId)
    → mux_stream drivers c process fd ≡ Ok s → exists drivers c s ≡ true
mux_exists drivers c process fd s e = grind (arith, free_exists, tested)

-- a swept configuration stays swept when a stream that exists hangs up
pub hung_swept : (drivers : List DriverSpec) (c : Configuration) (s : StreamId) → IsSwept drivers c
    → exists drivers c s ≡ true → IsSwept drivers (record c { hungs = with_hung s c.hungs })
hung_swept drivers c s h e = record {
  links = h.links;
  binds = h.binds;
  flow = h.flow;
  fulls = h.fulls;
  hungs = by (is_hung c.hungs s) refl;
} where
  by : (b : Bool) → is_hung c.hungs s ≡ b → list_all (λ t. exists drivers c t) (with_hung s c.hungs) ≡ true
  by true t = rw t h.hungs
  by false f = rw f (all_placed _ stream_before c.hungs s e h.hungs)

-- a command whose reply names dropped messages may drop messages
pub step_drops : (drivers : List DriverSpec) (c : Configuration) (process : ℕ) (k : Command) → IsSwept drivers c
    → (dropped_by (step drivers c process k).1 ≡ [] → ⊥) → may_drop k ≡ true
step_drops drivers c process k h some =
    grind (arith, of_rows, idle_drops, all_placed, all_filter, hung_swept, mux_exists, leaf_exists, at_none)

-- each entry of a history that is legal from here names dropped messages only if its command may drop
drops_from : (drivers : List DriverSpec) (c : Configuration) (es : List Entry) → IsKept drivers c
    → IsLegalFrom drivers c es → AllByRecursion (λ e. (dropped_by e.reply ≡ [] → ⊥) → may_drop e.command ≡ true) es
drops_from drivers c [] h legal = tt
drops_from drivers c (e ∷ es) h legal = (
  λ some. step_drops drivers c e.process e.command h.sound.swept (λ none. some (ap dropped_by (sym legal.0) ∙ none)),
  drops_from drivers (step drivers c e.process e.command).0 es (step_keeps drivers c e.process e.command h) legal.1,
)

-- in a legal history only commands that may drop messages name dropped ones
pub few_drop : (drivers : List DriverSpec) (history : List Entry) → IsLegal drivers history → AreDropsAllowed history
few_drop drivers history legal =
    All-from_recursion _ history (drops_from drivers empty history (empty_kept drivers) legal)
