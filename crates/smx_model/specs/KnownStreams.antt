-- Configurations whose parts only name streams that the drivers have.
use Rattle.std.specs.Prelude.{◌<◌, List, length}
use Rattle.std.specs.List.{All}
use Rattle.smx_types.specs.declared.driver.DriverSpec.{DriverSpec}
use Rattle.smx_types.specs.declared.link.Link.{Link}
use Rattle.smx_types.specs.declared.stream.StreamId.{StreamId}
use Rattle.smx_model.specs.Configuration.{Configuration}
use Rattle.smx_model.specs.DriverList.{minors_of}

-- the driver exists, and it has the minor
abbrev pub IsKnown : List DriverSpec → StreamId → Type 0
IsKnown drivers s = (s.driver < length drivers) × (s.minor < minors_of drivers s.driver)

-- the drivers have the controlling stream of each link
abbrev pub AreControllingKnown : List DriverSpec → List Link → Type 0
AreControllingKnown drivers links = All (λ l. IsKnown drivers l.ctl) links

-- the drivers have each stream that a list names, and the driver of each route exists
pub record AreStreamsKnown (drivers : List DriverSpec) (c : Configuration) : Type 0 where
  pub fds : All (λ d. IsKnown drivers d.stream) c.fds
  pub controlling : AreControllingKnown drivers c.links
  pub lowers : All (λ l. IsKnown drivers l.lower) c.links
  pub binds : All (λ b. IsKnown drivers (record { driver = b.driver; minor = b.minor })) c.binds
  pub routes : All (λ r. r.driver < length drivers) c.routes
  pub flow : All (λ h. IsKnown drivers h.place.stream) c.flow
  pub fulls : All (λ p. IsKnown drivers p.stream) c.fulls
  pub hungs : All (λ s. IsKnown drivers s) c.hungs
