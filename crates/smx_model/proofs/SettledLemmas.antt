-- Properties that moves and settling preserve, and parts that they don't change.
use Rattle.smx_model.proofs.Common.{◌≡◌, ℕ, zero, suc, List, [], ◌∷◌, Some, Ok, Err, Command}
use Rattle.smx_model.proofs.Common.{Entry, DriverSpec, Message, Place, Configuration, after_arrival, after_leaving}
use Rattle.smx_model.proofs.Common.{first_message, after_outcome, outcome, step, after_from, Outcome, after_move}
use Rattle.smx_model.proofs.Common.{after_settling_within, arith}
use Rattle.smx_model.proofs.OutcomeLemmas.{IfAccepted}

-- a property that holds before a move, and after a first message left and arrived at another place, holds
-- after the move
pub moved_by : (P : Configuration → Type 0) (drivers : List DriverSpec) (c : Configuration) (p : Place) → P c
    → ((q : Place) (m : Message) → first_message c.flow p ≡ Some m
    → P (after_arrival drivers (after_leaving drivers c p) q m)) → P (after_move drivers c p)
moved_by P drivers c p h f = grind arith

-- each move preserves the property P of configurations
pub record MovesKeep (P : Configuration → Type 0) (drivers : List DriverSpec) : Type 0 where
  pub each : (c : Configuration) (p : Place) → P c → P (after_move drivers c p)

-- if each move preserves a property, settling preserves it
pub settled_by : (P : Configuration → Type 0) (drivers : List DriverSpec) (n : ℕ) (c : Configuration)
    → MovesKeep P drivers → P c → P (after_settling_within drivers n c)
settled_by P drivers zero c k h = h
settled_by P drivers (suc n) c k h = grind (arith, settled_by P drivers n, k.each c)

-- if each accepted outcome and each move preserve a property, a history preserves it
pub after_by : (P : Configuration → Type 0) (drivers : List DriverSpec) (c : Configuration) (es : List Entry)
    → MovesKeep P drivers
    → ((c : Configuration) (process : ℕ) (k : Command) → P c → IfAccepted (λ d r. P d) (outcome drivers c process k))
    → P c → P (after_from drivers c es)
after_by P drivers c [] k f h = h
after_by P drivers c (e ∷ es) k f h = after_by P drivers (step drivers c e.process e.command).0 es k f
    (by (outcome drivers c e.process e.command) (f c e.process e.command h)) where
      by : (o : Outcome) → IfAccepted (λ d r. P d) o → P (after_outcome drivers c o).0
      by (Ok x) m = settled_by P drivers _ x.0 k m.holds
      by (Err g) m = h

-- only messages and full marks change
pub record ChangesQueuesAlone (c d : Configuration) : Type 0 where
  pub fds : d.fds ≡ c.fds
  pub links : d.links ≡ c.links
  pub binds : d.binds ≡ c.binds
  pub routes : d.routes ≡ c.routes
  pub hungs : d.hungs ≡ c.hungs

-- a move changes only the messages and the full marks
pub moved_alone : (drivers : List DriverSpec) (c : Configuration) (p : Place)
    → ChangesQueuesAlone c (after_move drivers c p)
moved_alone drivers c p = grind (arith, moved_by, ChangesQueuesAlone)

-- settling changes only the messages and the full marks
pub settled_alone : (drivers : List DriverSpec) (n : ℕ) (c : Configuration)
    → ChangesQueuesAlone c (after_settling_within drivers n c)
settled_alone drivers n c =
    grind (arith, settled_by (ChangesQueuesAlone c) drivers n c, ChangesQueuesAlone c, moved_alone drivers)
