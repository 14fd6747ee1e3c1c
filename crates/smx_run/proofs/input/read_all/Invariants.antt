use Rattle.std.proofs.Common.{◌≡◌, ◌+◌, ◌-◌, ◌≤◌, false, take, vec_len}
use Rattle.std.specs.Io.KnownBytes.{Consumes}
use Rattle.smx_run.specs.declared.input.TheConstants.{MAX_INPUT}
use Rattle.smx_run.proofs.input.read_all.Given as goal

abbrev pub invariant-reads : goal.invariant-reads
invariant-reads g l = record {
  within : l.count ≤ vec_len l.all;
  few : l.count ≤ MAX_INPUT;
  most : vec_len l.all ≤ MAX_INPUT + 1;
  so_far : Consumes (g.F.Feed.remaining l.fn.feed) (g.F.Feed.remaining l.feed) (take l.count l.all.items);
  before_the_end : g.F.Feed.ended l.feed ≡ false;
  fine : g.F.Feed.failures l.feed ≡ 0;
}

-- how many more bytes may be read
abbrev pub decreases-reads : goal.decreases-reads
decreases-reads g l = MAX_INPUT - l.count
