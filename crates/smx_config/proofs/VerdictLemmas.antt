-- There is one verdict on each history and view.
use Rattle.std.proofs.Common.{◌≡◌, ◌≢◌, ℕ, ◌⊎◌, inl, inr, List, arith}
use Rattle.std.proofs.lemmas.Bool.Decides.{not_from_Decides}
use Rattle.smx_types.specs.SameLemmas.{view_tells}
use Rattle.smx_types.specs.declared.command.Entry.{Entry}
use Rattle.smx_types.specs.declared.driver.DriverSpec.{DriverSpec}
use Rattle.smx_types.specs.declared.view.ConfigView.{ConfigView}
use Rattle.smx_model.specs.Histories.{IsLegal, after}
use Rattle.smx_model.specs.IllegalEntries.{IsFirstIllegal}
use Rattle.smx_model.specs.Views.{view}
use Rattle.smx_config.specs.Verdicts.{IsVerdict}
use Rattle.smx_config.specs.declared.verdict.Verdict.{Verdict}
use Rattle.smx_config.specs.declared.verdict.Verdict.TheVariants.{Illegal}

-- two views are equal, or they differ
same_or_not : (v w : ConfigView) → (v ≡ w) ⊎ (v ≢ w)
same_or_not v w = grind (arith, view_tells v w, not_from_Decides _ (view_tells v w))

-- some verdict holds
pub there_is_one : (drivers : List DriverSpec) (entries : List Entry) (shown : ConfigView)
    → IsLegal drivers entries ⊎ ((n : ℕ) × IsFirstIllegal drivers entries n)
    → (v : Verdict) × IsVerdict drivers entries shown v
there_is_one drivers entries shown (inl legal) = grind (arith, same_or_not shown (view drivers (after drivers entries)))
there_is_one drivers entries shown (inr first) = (Illegal first.0, first.1)
