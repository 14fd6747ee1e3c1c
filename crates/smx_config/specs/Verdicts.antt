-- The verdict on a history, and on a view that is said to show the configuration at its end.
use Rattle.std.specs.Prelude.{◌≡◌, ◌≢◌, List}
use Rattle.smx_types.specs.declared.command.Entry.{Entry}
use Rattle.smx_types.specs.declared.driver.DriverSpec.{DriverSpec}
use Rattle.smx_types.specs.declared.view.ConfigView.{ConfigView}
use Rattle.smx_model.specs.Histories.{IsLegal, after}
use Rattle.smx_model.specs.IllegalEntries.{IsFirstIllegal}
use Rattle.smx_model.specs.Views.{view}
use Rattle.smx_config.specs.declared.verdict.Verdict.{Verdict}
use Rattle.smx_config.specs.declared.verdict.Verdict.TheVariants.{Legal, Illegal, ConfigDiffers}

-- The entries are a legal history, and the view is that of the configuration after it. Or their first illegal entry has
-- this number. Or they are a legal history, and the view differs.
abbrev pub IsVerdict : List DriverSpec → List Entry → ConfigView → Verdict → Type 0
IsVerdict drivers entries shown Legal = IsLegal drivers entries × (shown ≡ view drivers (after drivers entries))
IsVerdict drivers entries shown (Illegal number) = IsFirstIllegal drivers entries number
IsVerdict drivers entries shown ConfigDiffers = IsLegal drivers entries × (shown ≢ view drivers (after drivers entries))
