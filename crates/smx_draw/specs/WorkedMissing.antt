-- The empty text lacks each part of a view.
use Rattle.std.specs.Prelude.{List, []}
use Rattle.smx_types.specs.declared.driver.DriverSpec.{DriverSpec}
use Rattle.smx_types.specs.declared.view.ConfigView.{ConfigView}
use Rattle.smx_draw.specs.Pictures.{HasEachInDot, HasEachInSvg}
use Rattle.smx_draw.specs.WorkedViews.{nothing, shown, table}

-- the empty text does not contain every part
pub record IsMissed (drivers : List DriverSpec) (v : ConfigView) : Type 0 where
  pub svg : HasEachInSvg drivers v [] → ⊥
  pub dot : HasEachInDot drivers v [] → ⊥

-- this holds for drivers only, and for each kind of line only
pub record EachIsMissed : Type 0 where
  pub drivers : IsMissed table nothing
  pub descriptors : IsMissed [] (record nothing { fds = shown.fds })
  pub links : IsMissed [] (record nothing { links = shown.links })
  pub bindings : IsMissed [] (record nothing { binds = shown.binds })
  pub routes : IsMissed [] (record nothing { routes = shown.routes })
  pub messages : IsMissed [] (record nothing { msgs = shown.msgs })
  pub fulls : IsMissed [] (record nothing { fulls = shown.fulls })
  pub hungs : IsMissed [] (record nothing { hungs = shown.hungs })

-- the empty text contains every part if there is no driver and no line
pub record NothingIsMissed : Type 0 where
  pub svg : HasEachInSvg [] nothing []
  pub dot : HasEachInDot [] nothing []
