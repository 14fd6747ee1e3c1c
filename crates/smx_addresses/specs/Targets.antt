-- The keys that are routed to each link, as sets by link id. No public clause needs this.
use Rattle.std.specs.Prelude.{◌≡◌, ℕ, Bool, false, ◌&&◌, ◌==◌, if◌then◌else◌, List}
use Rattle.std.specs.HashSet.{HashSet}
use Rattle.std.specs.List.{list_any}
use Rattle.std.specs.Map.{lookup}
use Rattle.std.specs.Option.{option_map_or}
use Rattle.smx_addresses.specs.Keys.{Key, is_key}

module _ {S : Type 0} where
  -- the key is in the set at this id
  abbrev pub is_target : List (ℕ × HashSet Key S) → ℕ → Key → Bool
  is_target sets id k = option_map_or (λ s. list_any (is_key k) s.keys) (lookup (λ i. id == i) sets) false

  -- the key is now in the set, or is not; nothing else has changed
  abbrev pub IsTargetSet : List (ℕ × HashSet Key S) → List (ℕ × HashSet Key S) → ℕ → Key → Bool → Type 0
  IsTargetSet old new id k b =
      (i : ℕ) (q : Key) → is_target new i q ≡ (if (id == i) && is_key k q then b else is_target old i q)
