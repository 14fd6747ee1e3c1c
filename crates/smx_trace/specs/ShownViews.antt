-- Views of configurations that commands leave.
use Rattle.std.specs.Prelude.{◌≡◌, List}
use Rattle.smx_types.specs.declared.driver.DriverSpec.{DriverSpec}
use Rattle.smx_types.specs.declared.view.ConfigView.{ConfigView}
use Rattle.smx_model.specs.Configuration.{Configuration}
use Rattle.smx_model.specs.DriverList.{IsDriverList}
use Rattle.smx_model.specs.KeptConfigurations.{IsKept}
use Rattle.smx_model.specs.Views.{view}

-- the view of some configuration over valid drivers that has the invariant; each configuration that is reached has it
pub record IsShown (drivers : List DriverSpec) (v : ConfigView) : Type 0 where
  pub valid_drivers : IsDriverList drivers
  pub configuration : Configuration
  pub kept : IsKept drivers configuration
  pub is : v ≡ view drivers configuration
