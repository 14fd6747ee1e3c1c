-- The changes below the line of an entry that a session performs.
use Rattle.std.proofs.Common.{◌≡◌, Bool, Option, Some, None, refl}
use Rattle.smx_types.specs.declared.view.ConfigView.{ConfigView}
use Rattle.smx_session.specs.Sessions.{State}
use Rattle.smx_live.specs.Turns.{IsTracedView, changes_since, traced_changes}

-- the changes since the view before a command are those of its configurations, if entries are traced
pub changes_are : (tracing : Bool) (s next : State) (before : Option ConfigView) → IsTracedView tracing s before
    → next.drivers ≡ s.drivers
    → changes_since before next ≡ traced_changes tracing s.drivers s.configuration next.configuration
changes_are tracing s next None is same = rw is refl
changes_are tracing s next (Some v) is same = rw (is.0, is.1, same) refl
