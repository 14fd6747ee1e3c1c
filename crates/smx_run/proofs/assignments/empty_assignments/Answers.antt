use Rattle.smx_run.proofs.Common.{rules, ap, map, sym, ◌∙◌, given, known_at, assigned_calls, AreFresh, IsFresh}
use Rattle.smx_run.proofs.AssignmentLemmas.{pushed, one_empty_more, all_more, all_of_none}
use Rattle.smx_run.proofs.assignments.empty_assignments.Goals as goal

pub loop-preserved : goal.loop-preserved
loop-preserved g c = record {
  room = search rules;
  counted = search rules;
  fresh = λ name. all_more (AreFresh name) _ _ _ (c.loop.invariant.fresh name)
      (all_of_none (λ job. IsFresh name job.seat) _ c.new.ensures.items) c.push_reserved.ensures.items;
  none = pushed assigned_calls _ _ _ _ _ c.push_reserved.ensures.items c.loop.invariant.none
      (ap (map (given known_at)) c.new.ensures.items) ∙ sym (one_empty_more c.loop.counter);
}
