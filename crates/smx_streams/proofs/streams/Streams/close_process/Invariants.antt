use Rattle.smx_model.proofs.Common.{◌≡◌, ℕ, ◌<◌, true, false, Some, not, filter, All, MAX_DESCRIPTORS, StreamId}
use Rattle.smx_streams.specs.StreamTables.{exists, number_at, stream_at}
use Rattle.smx_streams.proofs.WentLemmas.{is_closed}
use Rattle.smx_streams.proofs.streams.Streams.close_process.Given as goal

abbrev pub invariant-loop-fd : goal.invariant-loop-fd
invariant-loop-fd l = record {
  minors : l.self.minors ≡ l.initial.self.minors;
  fds : l.self.fds ≡ filter (λ d. not (is_closed l.process l.fd d)) l.initial.self.fds;
  holds : (x : StreamId) → number_at l.self.holds x ≡ number_at l.initial.self.holds x;
  start : l.fd ≡ 0 → l.self ≡ l.initial.self;
  hungs : 0 < l.fd → l.self.hungs ≡ filter (exists l.self) l.initial.self.hungs;
  numbered : 0 < l.fd → All (λ d. d.fd < MAX_DESCRIPTORS) l.initial.self.fds;
  went : (s : StreamId) → exists l.initial.self s ≡ true → exists l.self s ≡ false
      → (n : ℕ) × (n < l.fd) × (stream_at l.initial.self.fds l.process n ≡ Some s);
}
