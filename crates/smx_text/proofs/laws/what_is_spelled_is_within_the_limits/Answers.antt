use Rattle.smx_text.proofs.ProgramsMachineLemmas.{allowed_within}
use Rattle.smx_text.proofs.laws.what_is_spelled_is_within_the_limits.Goals as goal

pub returns-clause-programs : goal.returns-clause-programs
returns-clause-programs c = λ bytes v h. allowed_within v h.allowed

pub returns-clause-entries : goal.returns-clause-entries
returns-clause-entries c = λ bytes t h. h.allowed.entries
