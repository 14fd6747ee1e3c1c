use Rattle.std.proofs.Common.{rules, ◌≡◌, ◌∷◌}
use Rattle.smx_trace.specs.TraceWords.{marked}
use Rattle.smx_trace.proofs.MissingLemmas.{step_found, step_missing, step_on}
use Rattle.smx_trace.proofs.changes.write_missing.Goals as goal
use Rattle.smx_trace.proofs.changes.write_missing.Goals.{in-Some, in_default+in_ok-write_marked-in_default}

pub loop-line-preserved : goal.loop-line-preserved
loop-line-preserved g c =
    let rank = g.T.Ranked.rank c.args.drivers.now in
    let line = c.line-item.result in
    let others = c.loop-line.rest.now in
    let rest = c.lines_from-rest.result.now in
    let out = c.loop-line.out.items in
    let on = step_on rank g.T.PartialEq.eq g.met.T.Same.tells (λ line. marked c.args.mark.now (g.T.Spell.words line))
    c.args.lines.now c.args.others.now others c.match-split_first.rest.now c.loop-line.line-index line
    c.args.out.now.items out c.match-split_first.out.items
    c.loop-line-test.true c.line-item.is c.requires.lines c.requires.others
    c.loop-line.invariant.merged c.loop-line.invariant.written
    (elim c.match-split_first.branch [
      | in-Some w ↦
          let parts : rest ≡ line ∷ w.in-Some.more.now = search rules in
          rw (w.out-is, w.rest-is) (step_found rank g.T.PartialEq.eq g.met.T.Same.tells
          (λ line. marked c.args.mark.now (g.T.Spell.words line)) line others rest w.in-Some.more.now out
          c.lines_from-rest.ensures.passed parts)
      | in_default+in_ok-write_marked-in_default w ↦
          rw (w.out-is, w.rest-is) (step_missing rank g.T.PartialEq.eq g.met.T.Same.tells
          (λ line. marked c.args.mark.now (g.T.Spell.words line)) line others rest out w.write_marked.new.out.items
          c.lines_from-rest.ensures.passed c.lines_from-rest.ensures.starts (λ k. search rules)
          w.in_ok-write_marked-in_default.ensures)
    ]) in
    record { merged = on.0; written = on.1 }
