-- The value of a table of routes, as contracts see it.
use Rattle.std.specs.Prelude.{ℕ, Bool, ◌&&◌, ◌==◌, List}
use Rattle.smx_types.specs.declared.link.Route.{Route}
use Rattle.smx_model.specs.Configuration.{route_before}
use Rattle.smx_model.specs.Ordered.{IsRising}
use Rattle.smx_addresses.specs.Keys.{Key}

-- the driver and its address
abbrev pub target_of : Route → Key
target_of r = (r.driver, r.addr)

-- the route is the driver's for this address
abbrev pub is_route : ℕ → ℕ → Route → Bool
is_route driver addr r = (r.driver == driver) && (r.addr == addr)

-- by driver and address, so without duplicate addresses
abbrev pub IsRouteList : List Route → Type 0
IsRouteList routes = IsRising route_before routes
