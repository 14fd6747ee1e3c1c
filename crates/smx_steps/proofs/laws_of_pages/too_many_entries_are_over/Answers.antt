use Rattle.std.proofs.Common.{inl, refl}
use Rattle.smx_steps.proofs.laws_of_pages.too_many_entries_are_over.Goals as goal

pub returns : goal.returns
returns c = λ t more. inl (more, refl)
