use Rattle.smx_trace.proofs.Common.{ap, append_assoc, ◌∙◌, flat_map, codes, missing_from, marked}
use Rattle.std.proofs.Common.{ℕ, List, ◌++◌}
use Rattle.smx_trace.proofs.SerialLemmas.{then_ok}
use Rattle.smx_trace.proofs.changes.write_group.Goals as goal

pub returns : goal.returns
returns g c =
    let New : List ℕ = flat_map (λ y. marked (codes "  + ") (g.T.Spell.words y))
    (missing_from g.T.PartialEq.eq c.args.after.now c.args.before.now) in
    let gone = rw (c.as_slice-before.ensures, c.as_slice-after.ensures) at c.in_ok-write_missing.ensures in
    then_ok c.write_missing-2.result
    (λ e. (rw (c.as_slice-before.ensures, c.as_slice-after.ensures) at e)
    ∙ ap (λ (t : List ℕ). t ++ New) gone ∙ append_assoc c.args.out.now.items _ New)
    c.write_missing-2.ensures
