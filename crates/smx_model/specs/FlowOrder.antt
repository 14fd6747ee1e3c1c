-- A flow in order of places.
use Rattle.std.specs.Prelude.{◌≡◌, false, List}
use Rattle.smx_model.specs.Configuration.{QueuedMessage, queued_before}
use Rattle.smx_model.specs.Ordered.{AllLater}

-- no message has a place before that of an earlier message
abbrev pub IsInOrder : List QueuedMessage → Type 0
IsInOrder flow = AllLater (λ h k. queued_before k h ≡ false) flow
