use Rattle.smx_trace.proofs.Common.{flat_map, missing_from, ComesTo, marked}
use Rattle.std.specs.Prelude.{◌≡◌, ◌++◌, take, drop}
use Rattle.smx_trace.proofs.changes.write_missing.Given as goal

abbrev pub invariant-loop-line : goal.invariant-loop-line
invariant-loop-line g l = record {
  merged : ComesTo (g.T.Ranked.rank l.drivers) l.others (drop l.line-index l.lines) l.rest;
  written : l.out.items ≡ l.initial.out.items ++ flat_map (λ line. marked l.mark (g.T.Spell.words line))
      (missing_from g.T.PartialEq.eq (take l.line-index l.lines) l.others);
}
