use Rattle.std.proofs.Common.{rules, ◌≡◌, ◌∷◌, ◌++◌, [], map, ap, sym, ◌∙◌}
use Rattle.std.specs.Prelude.{IfOk}
use Rattle.std.proofs.lemmas.List.{map-append}
use Rattle.std.proofs.lemmas.Result.{IfOk-weaker}
use Rattle.smx_run.specs.Assignments.{made_calls, assigned_calls, HaveEnded}
use Rattle.smx_run.proofs.threads.+run_from.Goals as goal

pub returns-in-Ok-clause-called : goal.returns-in-Ok-clause-called
returns-in-Ok-clause-called g n c =
    let kept : IfOk c.join.result (λ v. (made_calls v ≡ assigned_calls c.in-Some.assignment)
    × HaveEnded c.args.shared.now.name v) = search rules in
    let whole : map assigned_calls c.args.assignments.items
    ≡ map assigned_calls c.pop.new.self.items ++ assigned_calls c.in-Some.assignment ∷ [] =
    ap (map assigned_calls) c.in-Some.ensures.items
    ∙ map-append assigned_calls c.pop.new.self.items (c.in-Some.assignment ∷ []) in
    IfOk-weaker c.and_then-in-Ok.result _ _
    (λ v both. both _ _ c.run_from-before.ensures.called (IfOk-weaker c.join.result _ _ (λ d k. k.0) kept) ∙ sym whole)
    c.and_then-in-Ok.ensures.called
