use Rattle.std.proofs.Common.{◌≡◌, ℕ, List, ◌++◌, ap, subst, ◌∙◌, true}
use Rattle.std.specs.Fmt.{decimal}
use Rattle.smx_types.specs.declared.driver.DriverSpec.{DriverSpec}
use Rattle.smx_draw.specs.SvgText.{IsSvgOf}
use Rattle.smx_trace.specs.Tracing.{TracesEntry}
use Rattle.smx_steps.specs.Steps.{step_text}
use Rattle.smx_steps.proofs.StepLemmas.{performs}
use Rattle.smx_steps.proofs.pages.write_step.Goals as goal

pub returns-clause-performed : goal.returns-clause-performed
returns-clause-performed c =
    let out : List ℕ = c.args.out.now.items in
    let lines : List ℕ = c.trace_entry.new.text.items in
    let picture : List ℕ = c.in_ok-picture.picture.items in
    let wrote : c.put_step.new.out.items ≡ out ++ step_text (decimal c.args.number) lines picture =
    c.in_ok-put_step.ensures
    ∙ ap (λ (name : List ℕ). out ++ step_text name c.as_slice.result.now c.as_slice-2.result.now)
    (c.as_bytes.ensures.value ∙ c.format.ensures.text)
    ∙ ap (λ (ls : List ℕ). out ++ step_text (decimal c.args.number) ls c.as_slice-2.result.now) c.as_slice.ensures.value
    ∙ ap (λ (p : List ℕ). out ++ step_text (decimal c.args.number) lines p) c.as_slice-2.ensures.value in
    performs c.args.number c.args.entry.now c.args.config.now c.trace_entry.new.config c.in_ok-after.after lines picture
    out c.put_step.new.out.items
    (subst (λ (t : List ℕ). TracesEntry true c.args.entry.now c.args.config.now c.trace_entry.new.config t lines)
    c.new-lines.ensures.items c.in_ok-after.ensures.traced)
    c.in_ok-after.ensures.now.is
    (subst (λ (ds : List DriverSpec). IsSvgOf ds c.in_ok-after.after picture) c.drivers.ensures.value
    c.in_ok-picture.ensures)
    wrote
