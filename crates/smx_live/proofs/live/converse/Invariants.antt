use Rattle.smx_live.proofs.Common.{◌≡◌, ℕ, true, List, length, IsLive}
use Rattle.smx_live.proofs.LiveStageLemmas.{HasGone}
use Rattle.smx_live.proofs.live.converse.Given as goal

abbrev pub invariant-loop-turn : goal.invariant-loop-turn
invariant-loop-turn g l = record {
  gone : (read output : List ℕ)
      → IsLive l.fn.explain read l.fn.inbox.ended output l.fn.talk.session l.fn.talk.progress l.fn.inbox.held.items
      → HasGone l.fn.explain read output (length l.fn.inbox.held.items) (g.F.Feed.remaining l.fn.feed)
      (g.F.Feed.remaining l.feed) (g.S.Sink.contents l.fn.sink) (g.S.Sink.contents l.sink) l._turn l.inbox.ended
      l.talk.session l.talk.progress l.inbox.held.items;
  end : g.F.Feed.ended l.feed ≡ l.inbox.ended;
  fed : g.F.Feed.failures l.feed ≡ 0;
  sunk : g.S.Sink.failures l.sink ≡ 0;
  flushed : g.S.Sink.flushed l.sink ≡ true;
}
