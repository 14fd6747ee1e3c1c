-- The hung-up streams after a command.
use Rattle.smx_model.proofs.Common.{◌≡◌, ℕ, true, false, List, [], filter, Option, Some, None, Result, Ok, Err, refl}
use Rattle.smx_model.proofs.Common.{rules, sym, ap, ◌∙◌, inl, inr, ◌*◌, length, ◌⊎◌, is_some, false≢true, is_hangup}
use Rattle.smx_model.proofs.Common.{Command, DriverSpec, Fault, Place, StreamId, outcome, step, after_outcome}
use Rattle.smx_model.proofs.Common.{done_outcome, Configuration, is_hung, with_hung, IsKept, leaf_stream, Outcome}
use Rattle.smx_model.proofs.Common.{next_of_first, Stays, IsSettled, exists, IsSwept, arith}
use Rattle.smx_types.specs.declared.command.Command.TheVariants as command
use Rattle.smx_types.specs.declared.reply.Reply.TheVariants as reply
use Rattle.smx_model.specs.Outcomes.{◌>>=◌}
use Rattle.smx_model.proofs.DropLemmas.{done_idle, hung_swept}
use Rattle.smx_model.proofs.AcceptedLemmas.{of_rows, at_none}
use Rattle.smx_model.proofs.OutcomeLemmas.{IfAccepted}
use Rattle.smx_model.proofs.SettledLemmas.{settled_alone}
use Rattle.smx_model.proofs.LeastMarkedLemmas.{none_is_least, settling_stays}
use Rattle.smx_model.proofs.SweptLemmas.{leaf_exists, swept_accepted}
use Rattle.smx_model.proofs.TestLemmas.{keep_all}
use Rattle.smx_model.proofs.TurningCommandLemmas.{more_hung_turn_none}
use Rattle.smx_model.proofs.WaitingLemmas.{if_open, movable_by}

-- each command other than a hangup keeps the hung-up streams that exist

-- after the command the same streams have hung up, or those of them that exist
record LeavesHungs (drivers : List DriverSpec) (c d : Configuration) : Type 0 where
  either : (d.hungs ≡ c.hungs) ⊎ (d.hungs ≡ filter (λ s. exists drivers d s) c.hungs)

-- a configuration with the same hung-up streams keeps all of them
hungs_same : (drivers : List DriverSpec) (c d : Configuration) → d.hungs ≡ c.hungs → LeavesHungs drivers c d
hungs_same drivers c d e = record { either = inl e }

-- the sweep keeps the hung-up streams that exist
hungs_done : (drivers : List DriverSpec) (c d : Configuration) → d.hungs ≡ c.hungs
    → IfAccepted (λ d r. LeavesHungs drivers c d) (done_outcome drivers c d)
hungs_done drivers c d e = grind arith

-- an accepted command other than a hangup keeps all hung-up streams, or those that exist
hungs_accepted : (drivers : List DriverSpec) (c : Configuration) (process : ℕ) (k : Command) → is_hangup k ≡ false
    → IfAccepted (λ d r. LeavesHungs drivers c d) (outcome drivers c process k)
hungs_accepted drivers c process k other =
    search (of_rows, hungs_same, hungs_done, at_none, never, rules) depth 24 where
      never : (name : List ℕ) (minor : ℕ) → k ≡ command.Hangup name minor → ⊥
      never name minor e = false≢true (sym other ∙ ap is_hangup e)

-- the streams of a list that exist
abbrev existing : List DriverSpec → Configuration → List StreamId → List StreamId
existing drivers d hungs = filter (λ s. exists drivers d s) hungs

-- after an outcome that keeps all hung-up streams, or those that exist, the ones that exist have hung up
hungs_finished : (drivers : List DriverSpec) (c : Configuration) (o : Outcome) → IsSwept drivers c
    → IfAccepted (λ d r. IsSwept drivers d) o → IfAccepted (λ d r. LeavesHungs drivers c d) o
    → (after_outcome drivers c o).0.hungs ≡ existing drivers (after_outcome drivers c o).0 c.hungs
hungs_finished drivers c (Err f) h swept_ m = sym (keep_all (λ s. exists drivers c s) c.hungs h.hungs)
hungs_finished drivers c (Ok x) h swept_ m = let s = settled_alone drivers (length x.0.flow * length drivers) x.0 in
    rw (s.hungs, s.fds, s.links) (by m.holds.either) where
      by : (x.0.hungs ≡ c.hungs) ⊎ (x.0.hungs ≡ existing drivers x.0 c.hungs) → x.0.hungs ≡ existing drivers x.0 c.hungs
      by (inr e) = e
      by (inl e) = sym (keep_all (λ s. exists drivers x.0 s) x.0.hungs swept_.holds.hungs) ∙ ap (existing drivers x.0) e

-- after a command other than a hangup the same streams have hung up, except those that don't exist
pub others_leave_hungs : (drivers : List DriverSpec) (c : Configuration) (process : ℕ) (k : Command) → IsSwept drivers c
    → is_hangup k ≡ false → (step drivers c process k).0.hungs
    ≡ filter (λ s. exists drivers (step drivers c process k).0 s) c.hungs
others_leave_hungs drivers c process k h other = grind (arith, hungs_finished, swept_accepted, hungs_accepted)

-- a hangup moves nothing

-- a next place that is missing or full is not open later, if it is then the same or missing, and the full places
-- are the same
stays_stuck : (c d : Configuration) (o n : Option Place) → Stays o n → d.fulls ≡ c.fulls → is_some (if_open c o) ≡ false
    → is_some (if_open d n) ≡ false
stays_stuck c d o n (inr e) f h = rw e refl
stays_stuck c d None n (inl e) f h = rw e refl
stays_stuck c d (Some q) n (inl e) f h = rw (e, f) h

-- a settled configuration stays settled when a stream hangs up
hung_settled : (drivers : List DriverSpec) (c : Configuration) (s : StreamId) → IsSettled drivers c
    → IsSettled drivers (record c { hungs = with_hung s c.hungs })
hung_settled drivers c s h p = let d = record c { hungs = with_hung s c.hungs } in
    movable_by drivers d p ∙ stays_stuck c d (next_of_first drivers c p) (next_of_first drivers d p)
    (more_hung_turn_none drivers c s p refl) refl (sym (movable_by drivers c p) ∙ h p)

-- a hangup of a device's stream adds it to the hung-up ones, drops no message and moves none
pub hangup_is : (drivers : List DriverSpec) (c : Configuration) (process : ℕ) (name : List ℕ) (minor : ℕ) (s : StreamId)
    → IsKept drivers c → leaf_stream drivers c name minor ≡ Ok s
    → step drivers c process (command.Hangup name minor) ≡ (record c { hungs = with_hung s c.hungs }, reply.Done [])
hangup_is drivers c process name minor s h e =
    ap (λ (r : Result StreamId Fault). after_outcome drivers c
    (r >>= (λ s. done_outcome drivers c (record c { hungs = with_hung s c.hungs })))) e
    ∙ (ap (after_outcome drivers c)
    (done_idle drivers c hung (hung_swept drivers c s h.sound.swept (leaf_exists drivers c name minor s e)) refl)
    ∙ ap (λ (d : Configuration). (d, reply.Done []))
    (settling_stays drivers _ hung
    (none_is_least drivers hung (hung_settled drivers c s h.settled)))) where
      hung : Configuration
      hung = record c { hungs = with_hung s c.hungs }

-- a hung-up stream stays hung up, and a stream that is opened anew is not

-- hanging up a stream that has hung up changes nothing
pub hung_kept : (drivers : List DriverSpec) (c : Configuration) (s : StreamId) → is_hung c.hungs s ≡ true
    → (record c { hungs = with_hung s c.hungs }) ≡ c
hung_kept drivers c s h = rw h refl

-- a second hangup of a device's stream is accepted, drops nothing and changes nothing
pub hangup_again : (drivers : List DriverSpec) (c : Configuration) (process : ℕ) (name : List ℕ) (minor : ℕ)
    (s : StreamId) → IsKept drivers c → leaf_stream drivers c name minor ≡ Ok s → is_hung c.hungs s ≡ true
    → step drivers c process (command.Hangup name minor) ≡ (c, reply.Done [])
hangup_again drivers c process name minor s h e again = hangup_is drivers c process name minor s h e
    ∙ ap (λ (d : Configuration). (d, reply.Done [])) (hung_kept drivers c s again)
