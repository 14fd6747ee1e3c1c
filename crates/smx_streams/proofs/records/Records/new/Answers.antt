use Rattle.smx_model.proofs.Common.{refl, arith}
use Rattle.smx_streams.proofs.GridLemmas.{no_keys_lengths}
use Rattle.smx_streams.proofs.RecordLemmas.{are_sound, no_holds, no_hungs, no_opens, none_recorded}
use Rattle.smx_streams.proofs.records.Records.new.Goals as goal

pub invariant_of-result : goal.invariant_of-result
invariant_of-result c = grind (arith, none_recorded c.args.minors.now c.new.result c.requires)

pub returns-clause-minors : goal.returns-clause-minors
returns-clause-minors c = rw c.in_ok-new_keys.ensures (no_keys_lengths c.args.minors.now)

pub returns-clause-none : goal.returns-clause-none
returns-clause-none c = λ s. (
  rw c.in_ok-new_keys.ensures (no_opens c.args.minors.now c.new.result s),
  rw c.in_ok-new_keys.ensures (no_holds c.args.minors.now c.new.result s),
)

pub returns-clause-hungs : goal.returns-clause-hungs
returns-clause-hungs c = λ s. rw c.in_ok-new_keys.ensures (no_hungs c.args.minors.now c.new.result s)

pub returns-clause-sound : goal.returns-clause-sound
returns-clause-sound c = are_sound c.in_ok-new_keys.field-0.items c.new.result
    (rw c.in_ok-new_keys.ensures
    (none_recorded c.args.minors.now c.new.result c.requires (λ k. rw c.new.ensures.empty refl)))
