use Rattle.smx_model.proofs.Common.{All-from_recursion}
use Rattle.smx_model.proofs.LimitLemmas.{always_few, always_within}
use Rattle.smx_model.proofs.laws_of_configurations.limits_hold.Goals as goal

pub returns-clause-links : goal.returns-clause-links
returns-clause-links c = λ drivers history. (always_within drivers history).links

pub returns-clause-descriptors : goal.returns-clause-descriptors
returns-clause-descriptors c = always_few

pub returns-clause-numbers : goal.returns-clause-numbers
returns-clause-numbers c = λ drivers history. All-from_recursion _ _ (always_within drivers history).numbers

pub returns-clause-ids : goal.returns-clause-ids
returns-clause-ids c = λ drivers history. (always_within drivers history).ids

pub returns-clause-serials : goal.returns-clause-serials
returns-clause-serials c = λ drivers history. (always_within drivers history).serials
