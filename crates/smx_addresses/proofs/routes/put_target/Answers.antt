use Rattle.smx_model.proofs.Common.{refl, sym, ◌∙◌}
use Rattle.smx_addresses.specs.Keys.{is_key}
use Rattle.smx_addresses.proofs.TargetLemmas.{new_set, on_err, same_set, when_true}
use Rattle.smx_addresses.proofs.routes.put_target.Goals as goal

pub returns-in_err-_new-clause-err : goal.returns-in_err-_new-clause-err
returns-in_err-_new-clause-err c =
    on_err c.from_residual.result _
    (same_set c.args.targets.now.entries _ c.args.id c.in-Some.keys.now c.insert.new.self
    (sym c.in-Some.ensures.value) c.in_err-_new.ensures.err
    ((c.get_mut.follows.holds c.insert.new.self).3 (rw (sym c.in-Some.ensures.value) refl)).0)

pub returns-clause-ok : goal.returns-clause-ok
returns-clause-ok c =
    new_set c.args.targets.now.entries _ c.args.id c.args.key c.insert-2.new.self
    (sym (rw c.in_default.is at c.get_mut.ensures.value))
    (λ q. c.in_ok-_new-2.ensures.updates.0 q ∙ rw c.new-keys.ensures.empty (when_true (is_key c.args.key q)))
    (rw c.get_mut.follows.holds-at-none at c.in_ok-insert.ensures.updates.0)
