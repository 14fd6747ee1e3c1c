-- Paths of links between drivers.
use Rattle.std.specs.Prelude.{◌≡◌, ℕ, ◌<◌, Bool, false, ◌&&◌, ◌||◌, ◌==◌, List, [], ◌∷◌, length}
use Rattle.std.specs.List.{AllPairs, Contains}
use Rattle.smx_types.specs.declared.link.Link.{Link}
use Rattle.smx_model.specs.Configuration.{same_stream}

-- these links lead from driver a to driver b: the lower driver of each is the upper driver of the next
abbrev pub IsPath : List Link → ℕ → List Link → ℕ → Type 0
IsPath links a [] b = a ≡ b
IsPath links a (l ∷ path) b = Contains links l × (l.ctl.driver ≡ a) × IsPath links l.lower.driver path b

-- a path: a nonempty list of links that leads from driver a to driver b
pub record Path (links : List Link) (a b : ℕ) : Type 0 where
  pub path : List Link
  pub some : 0 < length path
  pub leads : IsPath links a path b

-- no path leads from a driver to itself (streamio(7), I_LINK; that paths join drivers, and not streams, is specific to
-- this project)
abbrev pub HasNoCycle : List Link → Type 0
HasNoCycle links = (d : ℕ) → Path links d d → ⊥

-- no stream is below two links (streamio(7), I_LINK)
abbrev pub AreLowersApart : List Link → Type 0
AreLowersApart links = AllPairs (λ l k. same_stream l.lower k.lower ≡ false) links

-- whether a path leads from driver a to driver b: either without the first link, or over it once
abbrev pub reaches : List Link → ℕ → ℕ → Bool
reaches [] a b = false
reaches (l ∷ ls) a b = reaches ls a b
    || (((a == l.ctl.driver) || reaches ls a l.ctl.driver) && ((l.lower.driver == b) || reaches ls l.lower.driver b))
