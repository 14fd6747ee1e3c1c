use Rattle.std.proofs.Common.{◌≡◌, ◌≤◌, ℕ, List, ◌++◌, length, ap, ◌∙◌}
use Rattle.smx_model.specs.DriverList.{IsDriverList}
use Rattle.smx_config.specs.declared.config_fault.ConfigFault.TheVariants.{NoMemory}
use Rattle.smx_steps.specs.declared.frame.TheConstants.{HEAD}
use Rattle.smx_steps.specs.declared.pages.PageFault.TheVariants.{Refused}
use Rattle.smx_steps.specs.declared.pages.TheConstants.{MAX_STEPS}
use Rattle.smx_steps.proofs.StepLemmas.{page_given_up, page_made, refuses_with}
use Rattle.smx_steps.proofs.pages.page.Goals as goal

pub returns-in_err-write_steps-clause-refused : goal.returns-in_err-write_steps-clause-refused
returns-in_err-write_steps-clause-refused c =
    let t = c.args.transcript in
    let config = c.in_ok-config.ensures in
    let can : IsDriverList t.drivers = rw c.as_slice-drivers.ensures at config.drivers.1 in
    let few : length t.entries ≤ MAX_STEPS = rw c.as_slice-entries.ensures at c.if-entries-gt-MAX_STEPS.false in
    let head : c.put.new.out.items ≡ HEAD.now =
    c.in_ok-put.ensures ∙ ap (λ (out : List ℕ). out ++ HEAD.now) c.new-out.ensures.items in
    refuses_with t c.in_err-write_steps.field-0.0 _ c.from_residual-in_err-write_steps.ensures.1
    (page_given_up t c.in_ok-config.config c.as_slice.result.now c.put.new.out.items
    c.put_step.new.out.items can (config.drivers.0 ∙ c.as_slice-drivers.ensures) config.empty
    (rw (c.as_slice-drivers.ensures, ← c.as_slice.ensures.value) at c.in_ok-opening.ensures) head
    (record {
      picture = c.in_ok-picture.picture.items;
      drawn = rw (← config.drivers.0, c.in_ok-view.ensures.view) at c.in_ok-picture.ensures;
      written = rw c.as_slice-2.ensures.value at c.in_ok-put_step.ensures;
    }) c.as_slice-entries.result.now c.in_err-write_steps.field-0.0 c.as_slice-entries.ensures
    few c.in_err-write_steps.ensures.stopped)

pub returns-in_err-put-clause-refused : goal.returns-in_err-put-clause-refused
returns-in_err-put-clause-refused c =
    refuses_with c.args.transcript (Refused NoMemory) _ c.from_residual-in_err-put.ensures.1 (
      rw c.as_slice-entries.ensures at c.if-entries-gt-MAX_STEPS.false,
      rw c.as_slice-drivers.ensures at c.in_ok-config.ensures.drivers.1,
    )

pub returns-in_err-view-clause-refused : goal.returns-in_err-view-clause-refused
returns-in_err-view-clause-refused c =
    refuses_with c.args.transcript (Refused NoMemory) _ c.from_residual-in_err-view.ensures.1 (
      rw c.as_slice-entries.ensures at c.if-entries-gt-MAX_STEPS.false,
      rw c.as_slice-drivers.ensures at c.in_ok-config.ensures.drivers.1,
    )

pub returns-in_err-picture-clause-refused : goal.returns-in_err-picture-clause-refused
returns-in_err-picture-clause-refused c =
    refuses_with c.args.transcript (Refused NoMemory) _ c.from_residual-in_err-picture.ensures.1 (
      rw c.as_slice-entries.ensures at c.if-entries-gt-MAX_STEPS.false,
      rw c.as_slice-drivers.ensures at c.in_ok-config.ensures.drivers.1,
    )

pub returns-in_err-put_step-clause-refused : goal.returns-in_err-put_step-clause-refused
returns-in_err-put_step-clause-refused c =
    refuses_with c.args.transcript (Refused NoMemory) _ c.from_residual-in_err-put_step.ensures.1 (
      rw c.as_slice-entries.ensures at c.if-entries-gt-MAX_STEPS.false,
      rw c.as_slice-drivers.ensures at c.in_ok-config.ensures.drivers.1,
    )

pub returns-in_err-put-2-clause-refused : goal.returns-in_err-put-2-clause-refused
returns-in_err-put-2-clause-refused c =
    refuses_with c.args.transcript (Refused NoMemory) _ c.from_residual-in_err-put-2.ensures.1 (
      rw c.as_slice-entries.ensures at c.if-entries-gt-MAX_STEPS.false,
      rw c.as_slice-drivers.ensures at c.in_ok-config.ensures.drivers.1,
    )

pub returns-clause-written : goal.returns-clause-written
returns-clause-written c =
    let t = c.args.transcript in
    let config = c.in_ok-config.ensures in
    let head : c.put.new.out.items ≡ HEAD.now =
    c.in_ok-put.ensures ∙ ap (λ (out : List ℕ). out ++ HEAD.now) c.new-out.ensures.items in
    page_made t c.in_ok-config.config c.as_slice.result.now c.put.new.out.items c.put_step.new.out.items
    (rw c.as_slice-drivers.ensures at config.drivers.1) (config.drivers.0 ∙ c.as_slice-drivers.ensures) config.empty
    (rw (c.as_slice-drivers.ensures, ← c.as_slice.ensures.value) at c.in_ok-opening.ensures) head
    (record {
      picture = c.in_ok-picture.picture.items;
      drawn = rw (← config.drivers.0, c.in_ok-view.ensures.view) at c.in_ok-picture.ensures;
      written = rw c.as_slice-2.ensures.value at c.in_ok-put_step.ensures;
    }) c.write_steps.new.config c.as_slice-entries.result.now c.write_steps.new.out.items
    c.put-2.new.out.items c.as_slice-entries.ensures c.in_ok-write_steps.ensures.stepped c.in_ok-put-2.ensures
