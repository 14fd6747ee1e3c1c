-- Invariants of the links and routes of a configuration.
use Rattle.std.specs.Prelude.{◌≡◌, true, ℕ, ◌<◌, ◌≤◌, ◌&&◌, ◌==◌, nat_lt, List}
use Rattle.std.specs.List.{All, list_any}
use Rattle.smx_types.specs.declared.driver.DriverSpec.{DriverSpec}
use Rattle.smx_types.specs.declared.link.Link.{Link}
use Rattle.smx_model.specs.Configuration.{Configuration}
use Rattle.smx_model.specs.DriverList.{is_mux}
use Rattle.smx_model.specs.Ordered.{IsRising}
use Rattle.smx_model.specs.Paths.{HasNoCycle, AreLowersApart}

-- no cycle, and no stream below two links
pub record AreLinksSound (links : List Link) : Type 0 where
  pub no_cycle : HasNoCycle links
  pub lowers : AreLowersApart links

-- ids rise, so they have no duplicates; they start from 1 and are below the next id, so that no id is reused
pub record AreIdsRising (links : List Link) (next_id : ℕ) : Type 0 where
  pub rise : IsRising (λ l k. nat_lt l.id k.id) links
  pub from_one : All (λ l. 1 ≤ l.id) links
  pub below_next : All (λ l. l.id < next_id) links
  pub next : 1 ≤ next_id

-- only multiplexers have routes, and each route names an existing link whose upper driver is the route's driver
pub record AreRoutesSound (drivers : List DriverSpec) (c : Configuration) : Type 0 where
  pub mux : All (λ r. is_mux drivers r.driver ≡ true) c.routes
  pub lead : All (λ r. list_any (λ l. (l.id == r.id) && (l.ctl.driver == r.driver)) c.links ≡ true) c.routes
