use Rattle.std.proofs.Common.{List, subst, arith}
use Rattle.std.proofs.lemmas.List.{take_all}
use Rattle.smx_types.specs.declared.command.Entry.{Entry}
use Rattle.smx_steps.specs.Stepping.{HasStepped}
use Rattle.smx_steps.proofs.StepLemmas.{stepped_next}
use Rattle.smx_steps.proofs.pages.write_steps.Goals as goal

pub returns-then-not-fits-clause-stopped : goal.returns-then-not-fits-clause-stopped
returns-then-not-fits-clause-stopped c = λ drivers begun start. (
  c.steps.config,
  c.steps.out.items,
  c.steps.invariant.stepped drivers begun start,
  c.steps.invariant.number,
  c.if-not-fits.ensures.long,
)

pub returns-then-number-entries-clause-stepped : goal.returns-then-number-entries-clause-stepped
returns-then-number-entries-clause-stepped c = λ drivers begun start.
    subst (λ (es : List Entry). HasStepped drivers begun es c.steps.config c.steps.out.items)
    (take_all c.steps.number c.args.entries.now c.if-number-entries.true)
    (c.steps.invariant.stepped drivers begun start)

pub steps-preserved : goal.steps-preserved
steps-preserved c = record {
  now = c.in_ok-before.ensures.now;
  number = omega (arith, c.if-number-entries.false);
  stepped = λ drivers begun start.
      stepped_next drivers begun c.args.entries.now c.steps.number c.index-entries-number.result c.steps.config
      c.write_step.new.config c.steps.out.items c.write_step.new.out.items c.if-number-entries.false
      c.index-entries-number.is (c.steps.invariant.stepped drivers begun start) c.in_ok-before.ensures.performed;
}
