-- The removal of links, and of everything that belongs to streams that no longer exist.
use Rattle.std.specs.Prelude.{ℕ, Bool, ◌&&◌, not, ◌==◌, List, map, filter}
use Rattle.std.specs.List.{list_any}
use Rattle.smx_types.specs.declared.driver.DriverSpec.{DriverSpec}
use Rattle.smx_types.specs.declared.link.Link.{Link}
use Rattle.smx_types.specs.declared.stream.Place.{Place}
use Rattle.smx_types.specs.declared.stream.Side.TheVariants as side
use Rattle.smx_model.specs.Configuration.{Configuration, QueuedMessage, same_side}
use Rattle.smx_model.specs.Ordered.{in_rising_order}
use Rattle.smx_model.specs.Standing.{is_persistent, is_below, exists}

-- the configuration without the messages and full marks of some places
abbrev pub without_queues_at : Configuration → (Place → Bool) → Configuration
without_queues_at c goes =
    record c { flow = filter (λ h. not (goes h.place)) c.flow; fulls = filter (λ p. not (goes p)) c.fulls }

-- the read side of a stream below one of the links
abbrev pub is_read_below : List Link → Place → Bool
is_read_below links p = same_side p.side side.Read && is_below links p.stream

-- the configuration without some links, the routes to them, and the messages and full marks of their lower streams'
-- read sides (specific to this project)
abbrev pub without_links : Configuration → (Link → Bool) → Configuration
without_links c goes = without_queues_at
    (record c {
      links = filter (λ l. not (goes l)) c.links;
      routes = filter (λ r. not (list_any (λ l. l.id == r.id) gone)) c.routes;
    }) (is_read_below gone) where
      gone : List Link
      gone = filter goes c.links

-- the configuration without the messages, full marks, bindings and hangups of streams that don't exist
abbrev pub without_dead_streams : List DriverSpec → Configuration → Configuration
without_dead_streams drivers c = without_queues_at
    (record c {
      binds = filter (λ b. exists drivers c (record { driver = b.driver; minor = b.minor })) c.binds;
      hungs = filter (λ s. exists drivers c s) c.hungs;
    }) (λ p. not (exists drivers c p.stream))

-- the sweep: removes the ordinary links whose controlling stream doesn't exist, then everything that belongs to
-- streams that don't exist (streamio(7), I_LINK: the last close)
abbrev pub after_sweep : List DriverSpec → Configuration → Configuration
after_sweep drivers c =
    without_dead_streams drivers (without_links c (λ l. not (is_persistent l) && not (exists drivers c l.ctl)))

-- the serials of queued messages
abbrev pub serials : List QueuedMessage → List ℕ
serials flow = map (λ h. h.message.serial) flow

-- the serials that left the flow, rising
abbrev pub serials_that_left : List QueuedMessage → List QueuedMessage → List ℕ
serials_that_left old new = in_rising_order (filter (λ n. not (list_any (λ m. n == m) (serials new))) (serials old))
