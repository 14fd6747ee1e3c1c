use Rattle.smx_explain.proofs.Common.{◌≡◌, ◌∷◌, length, rules, arith, ap, LINE_FEED}
use Rattle.std.proofs.lemmas.List.{length-append}
use Rattle.smx_explain.proofs.DifferenceLemmas.{one_more}
use Rattle.smx_explain.proofs.differences.first_difference.Goals as goal

pub lines-preserved : goal.lines-preserved
lines-preserved c =
    let told = c.in_ok-told.ensures.next in
    let same : c.in_ok-told.told.now ≡ c.in_ok-has.has.now = search rules in
    record {
      come = one_more _ _ _ _ _ c.lines.invariant.come _ _ _ _ told.0 told.1 c.in_ok-has.ensures.next.1 same;
      room = omega (
        arith,
        ap (length {A = _}) told.1,
        length-append c.in_ok-told.told.now (LINE_FEED ∷ c.in_ok-told.more.now),
      );
    }
