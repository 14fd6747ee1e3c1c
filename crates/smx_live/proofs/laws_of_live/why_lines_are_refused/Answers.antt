use Rattle.smx_live.proofs.Common.{arith, refl, codes, eth, V2}
use Rattle.smx_model.specs.Worked.Common.{OpenClone}
use Rattle.smx_types.specs.declared.version.Version.TheVariants.{V1}
use Rattle.smx_live.proofs.AskedLineLemmas.{neither, no_call_line}
use Rattle.smx_live.proofs.WorkedLiveLemmas.{cloned}
use Rattle.smx_live.proofs.laws_of_live.why_lines_are_refused.Goals as goal

pub returns-clause-full : goal.returns-clause-full
returns-clause-full c = (neither (codes "x") refl refl, search arith)

pub returns-clause-no_command : goal.returns-clause-no_command
returns-clause-no_command c = (neither (codes "x") refl refl, no_call_line V2 (codes "x") refl, search arith)

pub returns-clause-no_memory : goal.returns-clause-no_memory
returns-clause-no_memory c = λ asks. (((3, OpenClone eth), cloned.in_version, cloned.is_read), search arith)

pub returns-clause-no_memory_when_full : goal.returns-clause-no_memory_when_full
returns-clause-no_memory_when_full c = λ is. omega (arith, (is (neither (codes "63 dup 0") refl refl)).1)

pub returns-clause-no_memory_for_no_command : goal.returns-clause-no_memory_for_no_command
returns-clause-no_memory_for_no_command c = λ is.
    let call = (is (neither (codes "x") refl refl)).0 in no_call_line V1 (codes "x") refl call.0 call.1 call.2

pub returns-clause-no_command_of_version_1 : goal.returns-clause-no_command_of_version_1
returns-clause-no_command_of_version_1 c = (
  neither (codes "0 hangup ip 0") refl refl,
  λ call fits is. c.which_lines_are_calls.ensures.not_of_a_hangup (call, fits, is),
  search arith,
)

pub returns-clause-none_of_version_1 : goal.returns-clause-none_of_version_1
returns-clause-none_of_version_1 c = λ is.
    c.which_lines_are_calls.ensures.not_of_a_hangup (is (neither (codes "0 hangup ip 0") refl refl)).0
