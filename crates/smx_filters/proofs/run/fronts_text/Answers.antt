use Rattle.std.proofs.Common.{rules, ◌≡◌, length, take, arith}
use Rattle.std.specs.Prelude.{codes}
use Rattle.std.proofs.lemmas.List.{take_more, length-take-le}
use Rattle.smx_filters.proofs.FrontsTextLemmas.{line_behind}
use Rattle.smx_filters.proofs.run.fronts_text.Goals as goal

pub loop-front-preserved : goal.loop-front-preserved
loop-front-preserved c =
    let before = c.loop-front.invariant in
    let fronts = c.args.fronts.now in
    let i = c.loop-front.front-index in
    let number : c.loop-front.process ≡ length (take i fronts) = omega
    (arith, before.process, c.loop-front-test.true, length-take-le i fronts (omega (arith, c.loop-front-test.true))) in
    record {
      process = search rules;
      text = line_behind (codes "fronts 1\n") _ _ c.loop-front.process _ _ _ before.text
          c.in_ok-add_front.ensures number (take_more fronts i _ c.loop-front-test.true);
    }
