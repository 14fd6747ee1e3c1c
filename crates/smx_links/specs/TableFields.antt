-- The fields of a table of links. No public clause needs this.
use Rattle.std.specs.Prelude.{ℕ, ◌≤◌, List, length}
use Rattle.std.specs.List.{All}
use Rattle.smx_types.specs.declared.link.Link.{Link}
use Rattle.smx_types.specs.declared.limits.TheConstants.{MAX_DRIVERS}
use Rattle.smx_links.specs.declared.table.LinkTable.TheInside.{Inside}
use Rattle.smx_links.specs.LinkLists.{LinkList, IsLinkList}
use Rattle.smx_links.specs.Masks.{AreMasks, IsWithin}

abbrev pub list_of_parts : List ℕ → List Link → ℕ → LinkList
list_of_parts ws links n = record { links = links; next_id = n; drivers = length ws }

-- each link is between drivers of the table, and each bit is set exactly for a path
pub record AreParts (ws : List ℕ) (links : List Link) (n : ℕ) : Type 0 where
  pub list : IsLinkList (list_of_parts ws links n)
  pub within : All (IsWithin (length ws)) links
  pub few : length ws ≤ MAX_DRIVERS
  pub masks : AreMasks links ws

-- the value that contracts see for these fields
abbrev pub list_of : Inside → LinkList
list_of t = list_of_parts t.masks.items t.links t.next_id

abbrev pub IsWhole : Inside → Type 0
IsWhole t = AreParts t.masks.items t.links t.next_id
