-- The streams that exist.
use Rattle.std.specs.Prelude.{◌≡◌, ℕ, zero, suc, Bool, true, false, ◌&&◌, ◌||◌, not, List, length}
use Rattle.std.specs.List.{list_any}
use Rattle.smx_types.specs.declared.driver.DriverSpec.{DriverSpec}
use Rattle.smx_types.specs.declared.link.Link.{Link}
use Rattle.smx_types.specs.declared.link.LinkKind.TheVariants as kind
use Rattle.smx_types.specs.declared.stream.Descriptor.{Descriptor}
use Rattle.smx_types.specs.declared.stream.StreamId.{StreamId}
use Rattle.smx_model.specs.Configuration.{Configuration, same_stream}

-- the link exists until it is removed (streamio(7), I_PLINK)
abbrev pub is_persistent : Link → Bool
is_persistent l = elim l.kind [ kind.Persistent ↦ true | kind.Ordinary ↦ false ]

-- a descriptor names the stream
abbrev pub is_named : List Descriptor → StreamId → Bool
is_named fds s = list_any (λ d. same_stream d.stream s) fds

-- the stream is the lower of a link
abbrev pub is_below : List Link → StreamId → Bool
is_below links s = list_any (λ l. same_stream l.lower s) links

-- A stream exists within 0 climbs if a descriptor names it, or it is below a persistent link. It exists within n + 1
-- climbs if it exists within n, or if it is below an ordinary link whose controlling stream exists within n (STREAMS
-- guide, multiplexing: the last close)
abbrev pub stands_within : List Descriptor → List Link → ℕ → StreamId → Bool
stands_within fds links zero s = is_named fds s || list_any (λ l. is_persistent l && same_stream l.lower s) links
stands_within fds links (suc n) s = stands_within fds links n s
    || list_any (λ l. not (is_persistent l) && (same_stream l.lower s && stands_within fds links n l.ctl)) links

-- the stream exists, which means within as many climbs as there are drivers
abbrev pub exists : List DriverSpec → Configuration → StreamId → Bool
exists drivers c s = stands_within c.fds c.links (length drivers) s

-- the stream exists within some number of climbs
pub record Stands (c : Configuration) (s : StreamId) : Type 0 where
  pub climbs : ℕ
  pub within : stands_within c.fds c.links climbs s ≡ true
