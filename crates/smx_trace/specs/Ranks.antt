-- The order in which a view lists the lines of a group, as numbers. No public clause needs this.
use Rattle.std.specs.Prelude.{ℕ, ◌+◌, ◌*◌, Bool, List, Ok, Err}
use Rattle.smx_types.specs.declared.driver.DriverSpec.{DriverSpec}
use Rattle.smx_types.specs.declared.view.BindingLine.{BindingLine}
use Rattle.smx_types.specs.declared.view.DescriptorLine.{DescriptorLine}
use Rattle.smx_types.specs.declared.view.FullLine.{FullLine}
use Rattle.smx_types.specs.declared.view.HungLine.{HungLine}
use Rattle.smx_types.specs.declared.view.LinkLine.{LinkLine}
use Rattle.smx_types.specs.declared.view.RouteLine.{RouteLine}
use Rattle.smx_model.specs.Configuration.{pair_before, side_number}
use Rattle.smx_model.specs.Lookups.{driver_of}
use Rattle.smx_model.specs.Ordered.{IsRising}

-- the number of the driver with this name; no driver of a view lacks one
abbrev pub number_of : List DriverSpec → List ℕ → ℕ
number_of drivers name = elim (driver_of drivers name) [ Ok n ↦ n | Err f ↦ 0 ]

-- the first comes before the second, by their two numbers
abbrev pub is_before : {X : Type 0} → (X → ℕ × ℕ) → X → X → Bool
is_before rank x y = pair_before (rank x).0 (rank x).1 (rank y).0 (rank y).1

-- the numbers rise
abbrev pub IsRanked : {X : Type 0} → (X → ℕ × ℕ) → List X → Type 0
IsRanked rank xs = IsRising (is_before rank) xs

-- by process and descriptor
abbrev pub fd_rank : List DriverSpec → DescriptorLine → ℕ × ℕ
fd_rank drivers d = (d.process, d.fd)

-- by id
abbrev pub link_rank : List DriverSpec → LinkLine → ℕ × ℕ
link_rank drivers l = (l.id, 0)

-- by driver and address
abbrev pub bind_rank : List DriverSpec → BindingLine → ℕ × ℕ
bind_rank drivers b = (number_of drivers b.driver, b.addr)

-- by driver and address
abbrev pub route_rank : List DriverSpec → RouteLine → ℕ × ℕ
route_rank drivers r = (number_of drivers r.driver, r.addr)

-- by driver, minor and side
abbrev pub full_rank : List DriverSpec → FullLine → ℕ × ℕ
full_rank drivers f = (number_of drivers f.driver, 2 * f.minor + side_number f.side)

-- by driver and minor
abbrev pub hung_rank : List DriverSpec → HungLine → ℕ × ℕ
hung_rank drivers h = (number_of drivers h.driver, h.minor)
