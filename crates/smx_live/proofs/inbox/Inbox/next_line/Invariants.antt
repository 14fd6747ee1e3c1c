use Rattle.smx_live.proofs.Common.{◌≡◌, ℕ, ◌+◌, ◌≤◌, true, List, [], ◌++◌, length, take, Consumes, MAX_INPUT}
use Rattle.smx_live.proofs.Common.{IsOneLine}
use Rattle.std.proofs.Common.{◌-◌}
use Rattle.smx_live.proofs.inbox.Inbox.next_line.Given as goal

abbrev pub invariant-reads : goal.invariant-reads
invariant-reads g l = record {
  so_far : (read : List ℕ) × Consumes (g.F.Feed.remaining l.fn.feed) (g.F.Feed.remaining l.feed) read
      × (l.self.held.items ≡ l.fn.self.held.items ++ read)
      × (l.fn.self.ended ≡ true → (read ≡ []) × (g.F.Feed.ended l.feed ≡ true));
  seen : l.seen ≤ length l.self.held.items;
  none : IsOneLine (take l.seen l.self.held.items);
  end : g.F.Feed.ended l.feed ≡ l.self.ended;
  fine : g.F.Feed.failures l.feed ≡ 0;
}

-- how many more bytes may be read
abbrev pub decreases-reads : goal.decreases-reads
decreases-reads g l = MAX_INPUT + 4097 - length l.self.held.items
