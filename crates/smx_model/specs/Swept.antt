-- A configuration in which nothing belongs to streams that don't exist.
use Rattle.std.specs.Prelude.{◌≡◌, true, ◌||◌, List}
use Rattle.std.specs.List.{list_all}
use Rattle.smx_types.specs.declared.driver.DriverSpec.{DriverSpec}
use Rattle.smx_model.specs.Configuration.{Configuration}
use Rattle.smx_model.specs.Standing.{is_persistent, exists}

-- these streams exist: the controlling stream of each ordinary link, each stream with a binding, a message or a full
-- mark, and each hung-up stream
pub record IsSwept (drivers : List DriverSpec) (c : Configuration) : Type 0 where
  pub links : list_all (λ l. is_persistent l || exists drivers c l.ctl) c.links ≡ true
  pub binds : list_all (λ b. exists drivers c (record { driver = b.driver; minor = b.minor })) c.binds ≡ true
  pub flow : list_all (λ h. exists drivers c h.place.stream) c.flow ≡ true
  pub fulls : list_all (λ p. exists drivers c p.stream) c.fulls ≡ true
  pub hungs : list_all (λ s. exists drivers c s) c.hungs ≡ true
