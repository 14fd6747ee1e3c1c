use Rattle.std.proofs.Common.{rules, ◌≡◌, true, ◌∷◌}
use Rattle.smx_trace.specs.Ranks.{is_before}
use Rattle.smx_trace.proofs.MissingLemmas.{pass, start}
use Rattle.smx_trace.proofs.changes.lines_from.Goals as goal

pub lines-init : goal.lines-init
lines-init g c = start (g.T.Ranked.rank c.args.drivers.now) c.args.lines.now c.args.line.now

pub lines-preserved : goal.lines-preserved
lines-preserved g c =
    let Rank = g.T.Ranked.rank c.args.drivers.now in
    let parts : c.lines.rest.now ≡ c.in-Some.first.now ∷ c.in-Some.more.now = search rules in
    let before : is_before Rank c.in-Some.first.now c.args.line.now ≡ true = search rules in
    pass Rank c.args.lines.now c.lines.rest.now c.in-Some.more.now c.args.line.now c.in-Some.first.now parts before
    c.lines.invariant
