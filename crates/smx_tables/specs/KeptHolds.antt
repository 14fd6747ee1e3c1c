-- The property that the lists of a configuration have before and after each change.
use Rattle.smx_tables.specs.declared.lists.Lists.{Lists}
use Rattle.smx_tables.specs.ExistingStreams.{AreHeld}

-- each stream below a link has one hold, and no other stream has a hold
pub record KeepsHolds (l : Lists) : Type 0 where
  pub held : AreHeld l.links.links l.streams
