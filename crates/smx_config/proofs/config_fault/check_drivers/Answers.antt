use Rattle.std.proofs.Common.{refl, sym, ◌∙◌, arith}
use Rattle.std.proofs.lemmas.Option.{slice_get_read}
use Rattle.smx_tables.proofs.DriverListLemmas.{next_driver, taken_name}
use Rattle.smx_config.proofs.config_fault.check_drivers.Goals as goal

pub returns-then-has_name-clause-accepted : goal.returns-then-has_name-clause-accepted
returns-then-has_name-clause-accepted
    c = (
      λ h. absurd cc,
      λ h. absurd (taken_name c.args.drivers.now c.loop-i.i c.index-drivers-i.result c.loop-i-test.true
          c.index-drivers-i.is (c.has_name.ensures.0 c.if-has_name.true) h),
    )

pub returns-then-has_name-clause-refused : goal.returns-then-has_name-clause-refused
returns-then-has_name-clause-refused c = (
  c.index-drivers-i.result,
  record {
    few = omega arith;
    here = slice_get_read c.args.drivers.now _ c.loop-i.i c.index-drivers-i.result refl
        c.loop-i-test.true c.index-drivers-i.is;
    before = c.loop-i.invariant;
  },
  sym c.check.ensures ∙ c.in_default.is,
  c.has_name.ensures.0 c.if-has_name.true,
)

pub loop-i-preserved : goal.loop-i-preserved
loop-i-preserved c =
    next_driver c.args.drivers.now c.loop-i.i c.index-drivers-i.result c.loop-i-test.true
    (omega arith) c.index-drivers-i.is c.loop-i.invariant (sym c.check.ensures ∙ c.in_default.is)
    (λ h. let taken = c.has_name.ensures.1 h in absurd cc)
