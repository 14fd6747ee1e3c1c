-- The value of a table of links, as contracts see it.
use Rattle.std.specs.Prelude.{◌≡◌, ℕ, ◌+◌, ◌≤◌, Bool, ◌||◌, not, ◌==◌, nat_le, List, [], ◌∷◌, ◌++◌, length}
use Rattle.std.specs.Prelude.{filter, Option, Some, None, Result, Err, if◌then◌else◌, MatchResult}
use Rattle.std.specs.List.{list_any}
use Rattle.smx_types.specs.declared.limits.TheConstants.{MAX_LINKS, NUMBER_END}
use Rattle.smx_types.specs.declared.link.Link.{Link}
use Rattle.smx_types.specs.declared.link.LinkKind.{LinkKind}
use Rattle.smx_types.specs.declared.stream.StreamId.{StreamId}
use Rattle.smx_model.specs.Paths.{reaches}
use Rattle.smx_model.specs.Standing.{is_below}
use Rattle.smx_model.specs.SoundLinks.{AreLinksSound, AreIdsRising}
use Rattle.smx_links.specs.declared.table.LinkFault.{LinkFault}
use Rattle.smx_links.specs.declared.table.LinkFault.TheVariants as fault

-- links by rising id, the next id, and the number of drivers
pub record LinkList : Type 0 where
  pub links : List Link
  pub next_id : ℕ
  pub drivers : ℕ

-- no cycle, no stream below two links, rising ids without duplicates, and no more links than the limit
pub record IsLinkList (t : LinkList) : Type 0 where
  pub sound : AreLinksSound t.links
  pub ids : AreIdsRising t.links t.next_id
  pub few : length t.links ≤ MAX_LINKS
  pub numbered : t.next_id ≤ NUMBER_END

-- the driver is the upper one of a link
abbrev pub is_upper : List Link → ℕ → Bool
is_upper links driver = list_any (λ l. l.ctl.driver == driver) links

-- the first reason that applies for refusing a link
abbrev pub refusal : LinkList → StreamId → StreamId → Option LinkFault
refusal t ctl lower =
    if is_below t.links lower then Some fault.Already
    else if (lower.driver == ctl.driver) || reaches t.links lower.driver ctl.driver then Some fault.Cycle
    else if nat_le MAX_LINKS (length t.links) || nat_le NUMBER_END t.next_id then Some fault.Full
    else None

-- the table with one more link, which gets the next id
abbrev pub with_link : LinkList → StreamId → StreamId → LinkKind → LinkList
with_link t ctl lower kind = record {
  links = t.links ++ record { id = t.next_id; ctl = ctl; lower = lower; kind = kind } ∷ [];
  next_id = t.next_id + 1;
  drivers = t.drivers;
}

-- the result: the refusal, if one applies; otherwise the id, or out of memory
abbrev pub IsLinked : Option LinkFault → LinkList → Result ℕ LinkFault → Type 0
IsLinked (Some f) t r = r ≡ Err f
IsLinked None t r = MatchResult r (λ id. (id ≡ t.next_id)) (λ f. f ≡ fault.NoMemory)

-- the table without the link with this id
abbrev pub without_id : LinkList → ℕ → LinkList
without_id t id = record t { links = filter (λ l. not (l.id == id)) t.links }

-- the link has one of these ids
abbrev pub is_one_of : List ℕ → Link → Bool
is_one_of ids l = list_any (λ id. l.id == id) ids

-- the links with other ids than these
abbrev pub others_of : List ℕ → List Link → List Link
others_of ids links = filter (λ l. not (is_one_of ids l)) links

-- the table without the links with these ids
abbrev pub without_ids : LinkList → List ℕ → LinkList
without_ids t ids = record t { links = others_of ids t.links }
