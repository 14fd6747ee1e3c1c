-- Links by id, and ids by lower stream. No public clause needs this.
use Rattle.std.specs.Prelude.{◌≡◌, ℕ, Bool, ◌&&◌, ◌==◌, List, find, map, Option}
use Rattle.std.specs.Map.{lookup, values_of}
use Rattle.std.specs.Option.{option_map}
use Rattle.smx_types.specs.declared.link.Link.{Link}
use Rattle.smx_types.specs.declared.stream.StreamId.{StreamId}
use Rattle.smx_model.specs.Configuration.{same_stream}

-- a driver and a minor
abbrev pub Key : Type 0
Key = ℕ × ℕ

-- both keys have the same numbers
abbrev pub is_key : Key → Key → Bool
is_key p q = (p.0 == q.0) && (p.1 == q.1)

-- the stream as a key
abbrev pub key_of : StreamId → Key
key_of s = (s.driver, s.minor)

-- a link with its id as the key
abbrev pub under_id : Link → ℕ × Link
under_id l = (l.id, l)

-- the id of the link that the stream is below, if there is one
abbrev pub id_above : List Link → StreamId → Option ℕ
id_above links s = option_map (λ l. l.id) (find (λ l. same_stream l.lower s) links)

-- the map has, for each stream, the id of the link that the stream is below
abbrev pub HasIds : List (Key × ℕ) → List Link → Type 0
HasIds ids links = (s : StreamId) → lookup (is_key (key_of s)) ids ≡ id_above links s

-- the map of links has each link at its id; the map of ids has each id at its link's lower stream
pub record AreFound (by_id : List (ℕ × Link)) (ids : List (Key × ℕ)) : Type 0 where
  pub keyed : by_id ≡ map under_id (values_of by_id)
  pub lowers : HasIds ids (values_of by_id)
