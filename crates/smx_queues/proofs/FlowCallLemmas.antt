-- The numbers of places, as calls need them.
-- each number below the count of places is the number of a place
pub use Rattle.smx_queues.proofs.PlaceLemmas.{numbered}
