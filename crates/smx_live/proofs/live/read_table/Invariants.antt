use Rattle.smx_live.proofs.Common.{◌≡◌, ℕ, ◌+◌, List, [], ◌++◌, length, Consumes, MAX_INPUT, lines_text, AreOfTable}
use Rattle.std.proofs.Common.{◌-◌}
use Rattle.smx_live.proofs.live.read_table.Given as goal

abbrev pub invariant-lines : goal.invariant-lines
invariant-lines g l = record {
  so_far : (read : List ℕ) × Consumes (g.F.Feed.remaining l.fn.feed) (g.F.Feed.remaining l.feed) read
      × (l.fn.inbox.held.items ++ read ≡ l.table.items ++ l.inbox.held.items);
  lines : (lines : List (List ℕ)) × (l.table.items ≡ lines_text lines) × AreOfTable lines [];
  end : g.F.Feed.ended l.feed ≡ l.inbox.ended;
  fine : g.F.Feed.failures l.feed ≡ 0;
}

-- how many more bytes a table may have
abbrev pub decreases-lines : goal.decreases-lines
decreases-lines g l = MAX_INPUT + 1 - length l.table.items
