use Rattle.smx_run.proofs.Common.{◌≡◌, ap, ◌∙◌, subst, sym, arith, take, ◌<◌, ◌+◌, All, List, ◌++◌, ◌∷◌}
use Rattle.smx_run.proofs.Common.{[], Entry, IsMet, MAX_PROCESSES}
use Rattle.std.proofs.lemmas.List.{take_all, take_more}
use Rattle.smx_run.specs.Gathering.{entries_of}
use Rattle.smx_run.proofs.AssignmentLemmas.{all_more}
use Rattle.smx_run.proofs.GatheringLemmas.{met_more, met_still, whole_if_met}
use Rattle.smx_run.proofs.gathering.is_borne_out.Goals as goal
use Rattle.smx_run.proofs.gathering.is_borne_out.Goals.{then-get-number, else-get-number}

pub loop-entry-preserved : goal.loop-entry-preserved
loop-entry-preserved c =
    let before = c.loop-entry.invariant in
    let e : Entry = c.entry-item.result in
    let more : take (c.loop-entry.entry-index + 1) c.args.history.now ≡ take c.loop-entry.entry-index c.args.history.now
    ++ e ∷ [] = take_more c.args.history.now c.loop-entry.entry-index e c.loop-entry-test.true
    ∙ ap (λ (x : Entry). take c.loop-entry.entry-index c.args.history.now ++ x ∷ []) (sym c.entry-item.is) in
    record {
      processes = all_more (λ (x : Entry). x.process < MAX_PROCESSES) _ _ e before.processes c.get.ensures.range more;
      met = elim c.if-get-number.branch [
        | then-get-number w ↦ rw w.met-is (met_more _ _ _ e _ _ more
            (omega (arith, w.if-get-number, c.get.ensures.value)) (w.meet-met.ensures _ before.met))
        | else-get-number w ↦ rw w.met-is (met_still _ _ _ e _ _ more
            (λ is. omega (arith, w.if-get-number, c.get.ensures.value, is)) before.met)
      ];
    }

pub returns-clause-whole : goal.returns-clause-whole
returns-clause-whole c =
    let all = take_all c.loop-entry.entry-index c.args.history.now c.loop-entry-test.false in
    let met : IsMet c.args.transcript.now (entries_of c.args.number c.args.history.now) c.loop-entry.met = subst
    (λ (es : List Entry). IsMet c.args.transcript.now (entries_of c.args.number es) c.loop-entry.met) all
    c.loop-entry.invariant.met in
    whole_if_met _ _ _ _ met c.eq.ensures

pub returns-clause-processes : goal.returns-clause-processes
returns-clause-processes c =
    subst (All (λ (e : Entry). e.process < MAX_PROCESSES))
    (take_all c.loop-entry.entry-index c.args.history.now c.loop-entry-test.false) c.loop-entry.invariant.processes
