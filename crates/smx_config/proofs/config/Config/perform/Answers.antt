use Rattle.std.proofs.Common.{rules, Result, sym, ap, ◌∙◌}
use Rattle.smx_model.proofs.FullPlaceLemmas.{step_filled}
use Rattle.smx_model.proofs.KeptLemmas.{step_keeps}
use Rattle.smx_model.proofs.RefusalLemmas.{refused_same}
use Rattle.smx_tables.specs.Refinement.{answer_of}
use Rattle.smx_tables.specs.declared.step_error.StepError.{StepError}
use Rattle.smx_config.proofs.WokenLemmas.{fault_keeps, sound_if, stepped, woken_if}
use Rattle.smx_config.proofs.config.Config.perform.Goals as goal
use Rattle.smx_config.proofs.config.Config.perform.Goals.{then-is_ok, else-is_ok}

pub settle-requires-clause-sound : goal.settle-requires-clause-sound
settle-requires-clause-sound c =
    sound_if c.self.inside.tables c.perform-answer.new.self c.args.process c.args.command.now c.perform-answer.result
    c.perform-answer.new.reply (sym c.is_ok.ensures.value ∙ c.if-is_ok.true) c.perform-answer.ensures.refines
    c.self.invariant.kept.sound

pub settle-requires-clause-marks : goal.settle-requires-clause-marks
settle-requires-clause-marks c =
    woken_if c.self.inside.tables c.perform-answer.new.self c.args.process c.args.command.now c.perform-answer.result
    c.perform-answer.new.reply c.unwrap_or-wakes.result c.self.inside.marks c.wake.new.marks
    (sym c.is_ok.ensures.value ∙ c.if-is_ok.true) c.perform-answer.ensures.refines (c.unwrap_or-wakes.ensures ∙ c.wakes_of.ensures)
    c.self.invariant.kept.sound c.self.invariant.filled c.self.invariant.marks c.wake.ensures

pub invariant_of-self : goal.invariant_of-self
invariant_of-self c =
    let old = c.self.inside.tables in
    let there = stepped old c.perform-answer.new.self c.settle.new.tables c.args.process c.args.command.now
    c.perform-answer.result c.perform-answer.new.reply (sym c.is_ok.ensures.value ∙ c.if-is_ok.true)
    c.perform-answer.ensures.refines c.settle.ensures.value in
    record {
      kept = rw there (step_keeps old.drivers old.configuration c.args.process c.args.command.now
          c.self.invariant.kept);
      filled = rw there (step_filled old.drivers old.configuration c.args.process c.args.command.now
          c.self.invariant.filled);
      marks = c.settle.ensures.marks;
      hops = c.settle.ensures.hops;
      none = c.settle.ensures.none;
    }

pub returns-in-Ok-clause-fault : goal.returns-in-Ok-clause-fault
returns-in-Ok-clause-fault c = elim c.if-is_ok.branch [
  | then-is_ok w ↦
      let old = c.self.inside.tables in
      let there = c.perform-answer.new.reply in
      let accepted = ap (λ (a : Result (Unit {0}) StepError). answer_of a there) c.in-Ok.is in
      λ f fault. w.self-is ∙ (fault_keeps old c.perform-answer.new.self w.settle.new.tables c.args.process
      c.args.command.now (answer_of c.perform-answer.result there) there f accepted c.perform-answer.ensures.refines
      w.settle.ensures.value (refused_same old.drivers old.configuration c.args.process
      c.args.command.now f) (sym c.shrink.ensures ∙ fault) ∙ c.self.view_is)
  | else-is_ok w ↦ search rules
]
