-- Links that are removed by a list of their ids.
use Rattle.std.specs.Prelude.{◌≡◌, ℕ, Bool, false, ◌&&◌, not, ◌==◌, List, filter, find}
use Rattle.std.specs.List.{list_any}
use Rattle.std.specs.Option.{option_map_or}
use Rattle.smx_types.specs.declared.link.Link.{Link}
use Rattle.smx_types.specs.declared.stream.Descriptor.{Descriptor}
use Rattle.smx_types.specs.declared.stream.Place.{Place}
use Rattle.smx_types.specs.declared.stream.Side.TheVariants as side
use Rattle.smx_model.specs.Configuration.{same_side, same_stream}
use Rattle.smx_model.specs.Standing.{is_persistent, stands_within}

-- the id is in the list
abbrev pub is_listed : List ℕ → ℕ → Bool
is_listed ids id = list_any (λ i. id == i) ids

-- the ids are those of the links that go, in any order
abbrev pub AreIdsOf : (Link → Bool) → List Link → List ℕ → Type 0
AreIdsOf goes links ids = (id : ℕ) → is_listed ids id ≡ list_any (λ l. l.id == id) (filter goes links)

-- the place is the read side of a stream below a link whose id is listed
abbrev pub is_read_below_listed : List Link → List ℕ → Place → Bool
is_read_below_listed links gone p =
    same_side p.side side.Read && option_map_or (λ l. is_listed gone l.id)
    (find (λ l. same_stream l.lower p.stream) links) false

-- the link is ordinary, and its controlling stream doesn't exist within this number of climbs
abbrev pub is_orphaned : List Descriptor → List Link → ℕ → Link → Bool
is_orphaned fds links climbs l = not (is_persistent l) && not (stands_within fds links climbs l.ctl)
