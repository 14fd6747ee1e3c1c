-- The value of tables, and their fields.
use Rattle.smx_tables.proofs.Common.{Inside, ◌≡◌, ℕ, List, length, map, ap, subst, sym, ◌∙◌, arith, DriverSpec}
use Rattle.smx_tables.proofs.Common.{Reply, Configuration, Outcome, TellsExisting, configuration_of, Machine}
use Rattle.smx_tables.proofs.Common.{machine_of, TablesInvariant}
use Rattle.std.proofs.Common.{Ok}
use Rattle.smx_model.specs.KeptConfigurations.{IsSound}
use Rattle.smx_tables.proofs.ExistingLemmas.{swept_is_linked, tells_existing}

-- if the value is sound, the fields are
pub sound_inside : (t : Inside) (m : Machine) → machine_of t ≡ m → IsSound m.drivers m.configuration
    → IsSound t.drivers.items (configuration_of t.lists)
sound_inside t m e h = subst (λ (x : Machine). IsSound x.drivers x.configuration) (sym e) h

-- if the value is sound, the table of streams has exactly the streams that exist
pub tells_inside : (t : Inside) (m : Machine) → machine_of t ≡ m → TablesInvariant t
    → IsSound m.drivers m.configuration → TellsExisting t.drivers.items (configuration_of t.lists) t.lists.streams
tells_inside t m e h s = grind (arith, sound_inside, tells_existing, swept_is_linked)

-- the same over the drivers and the configuration of the value
pub tells_seen : (t : Inside) (m : Machine) → machine_of t ≡ m → TablesInvariant t
    → IsSound m.drivers m.configuration → TellsExisting m.drivers m.configuration t.lists.streams
tells_seen t m e h s = grind (arith, tells_inside t m e h s)

-- an outcome accepted for the fields is accepted for the value
pub accepted : (t : Inside) (m : Machine) (new : Configuration) (o : Machine → Outcome) (r : Reply) → machine_of t ≡ m
    → o (machine_of t) ≡ Ok (new, r) → (t.drivers.items ≡ m.drivers) × (o m ≡ Ok (new, r))
accepted t m new o r e h = grind arith

-- the table of links is over the drivers
pub table_over : (t : Inside) (m : Machine) → machine_of t ≡ m → TablesInvariant t
    → t.lists.links.drivers ≡ length m.drivers
table_over t m e h = ap (λ (x : ℕ × List ℕ × List DriverSpec). x.0) h.sizes ∙ ap (λ (x : Machine). length x.drivers) e

-- the table of streams has the minors of the drivers
pub streams_over : (t : Inside) (m : Machine) → machine_of t ≡ m → TablesInvariant t
    → t.lists.streams.minors ≡ map (λ d. d.minors) m.drivers
streams_over t m e h = grind arith
