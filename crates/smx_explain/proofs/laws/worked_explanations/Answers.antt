use Rattle.std.proofs.Common.{[], ◌∷◌, inl, refl}
use Rattle.smx_explain.specs.declared.kinds.Choice.TheVariants as choice
use Rattle.smx_explain.specs.declared.kinds.Value.TheVariants as value
use Rattle.smx_explain.proofs.SessionLineLemmas.{of_a_misspelt_word, of_no_request}
use Rattle.smx_explain.proofs.laws.worked_explanations.Goals as goal

pub returns-clause-no_request : goal.returns-clause-no_request
returns-clause-no_request c = of_no_request

pub returns-clause-misspelt : goal.returns-clause-misspelt
returns-clause-misspelt c = of_a_misspelt_word

pub returns-clause-later : goal.returns-clause-later
returns-clause-later c = (value.Name ∷ value.Number ∷ [], choice.Equals, inl (inl (refl, refl, refl)))
