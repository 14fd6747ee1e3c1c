use Rattle.smx_run.proofs.Common.{rules, ◌≡◌, refl, subst, arith, length, HoldsPrograms}
use Rattle.smx_run.specs.Reports.{transcript_in}
use Rattle.smx_run.proofs.ProgramOrderLemmas.{holds, report_of}
use Rattle.smx_run.proofs.run.run_system.Goals as goal

pub returns-then-workers-lt2-clause-report : goal.returns-then-workers-lt2-clause-report
returns-then-workers-lt2-clause-report g c =
    let s = c.run_alone.new.system in
    let drivers : s.drivers ≡ c.args.programs.drivers = search rules in
    report_of c.args.programs s (transcript_in c.args.programs.version s) c.in_ok-fronts.ensures.sound refl refl refl
    drivers (subst (HoldsPrograms s.history) c.into_parts-drivers.ensures.programs
    (holds _ _ c.in_ok-fronts.ensures.calls))

pub returns-clause-report : goal.returns-clause-report
returns-clause-report g c =
    let s = c.in_ok-run_together.field-0.0 in
    let run = c.in_ok-run_together.ensures in
    let drivers : s.drivers ≡ c.args.programs.drivers = search rules in
    report_of c.args.programs s (transcript_in c.args.programs.version s) run.sound refl refl refl drivers
    (subst (HoldsPrograms s.history) c.into_parts-drivers.ensures.programs run.holds)

-- there are at least two workers and two programs
pub returns-clause-in_turn : goal.returns-clause-in_turn
returns-clause-in_turn g c few =
    let many : length c.as_slice-2.result.now ≡ length c.args.programs.programs = search rules in
    absurd (grind (arith, few, many, c.min-workers.ensures, c.if-workers-lt2.false))

pub returns-in_err-run_together-clause-alone : goal.returns-in_err-run_together-clause-alone
returns-in_err-run_together-clause-alone g c few =
    let many : length c.as_slice-2.result.now ≡ length c.args.programs.programs = search rules in
    absurd (grind (arith, few, many, c.min-workers.ensures, c.if-workers-lt2.false))
