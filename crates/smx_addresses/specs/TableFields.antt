-- The fields of the tables. No public clause needs this.
use Rattle.std.specs.Prelude.{◌≡◌, ℕ, Bool, false, ◌==◌, List, [], ◌∷◌}
use Rattle.std.specs.HashSet.{HashSet}
use Rattle.std.specs.List.{IsDistinct}
use Rattle.std.specs.Map.{keys_of, lookup}
use Rattle.std.specs.Option.{option_map_or}
use Rattle.smx_types.specs.declared.link.Binding.{Binding}
use Rattle.smx_types.specs.declared.link.Route.{Route}
use Rattle.smx_model.specs.Configuration.{bind_before, route_before}
use Rattle.smx_model.specs.Ordered.{with_inserted}
use Rattle.smx_addresses.specs.BindingLists.{stream_of}
use Rattle.smx_addresses.specs.Keys.{Key, AreApart, found, is_key}
use Rattle.smx_addresses.specs.Targets.{is_target}

-- a number at each key
abbrev pub Entries : Type 0
Entries = List (Key × ℕ)

-- the elements of the table, sorted by the order
abbrev pub in_order : {X : Type 0} → (X → X → Bool) → (Key × ℕ → X) → Entries → List X
in_order before make [] = []
in_order before make (e ∷ es) = with_inserted before (in_order before make es) (make e)

-- a look-up in the table finds what a look-up in the list finds
abbrev pub Finds : {X : Type 0} → (X → Key) → (X → ℕ) → List X → Entries → Type 0
Finds key value xs es = (k : Key) → lookup (is_key k) es ≡ found key value xs k

-- the binding of an address and its minor
abbrev pub binding_of : Key × ℕ → Binding
binding_of e = record { driver = e.0.0; addr = e.0.1; minor = e.1 }

abbrev pub bindings_of : Entries → List Binding
bindings_of es = in_order bind_before binding_of es

-- no duplicate address, no duplicate stream, and at each stream the address of its binding
pub record AreBindings (minors addrs : Entries) : Type 0 where
  pub unique : IsDistinct is_key (keys_of minors)
  pub streams : AreApart stream_of (bindings_of minors)
  pub addresses : Finds stream_of (λ b. b.addr) (bindings_of minors) addrs

-- the route of an address and its link's id
abbrev pub route_of : Key × ℕ → Route
route_of e = record { driver = e.0.0; addr = e.0.1; id = e.1 }

abbrev pub routes_of : Entries → List Route
routes_of es = in_order route_before route_of es

-- no duplicate address, and at each link the keys that are routed to it
pub record AreRoutes {S : Type 0} (ids : Entries) (sets : List (ℕ × HashSet Key S)) : Type 0 where
  pub unique : IsDistinct is_key (keys_of ids)
  pub targets : (id : ℕ) (k : Key) → is_target sets id k ≡ option_map_or (λ n. n == id) (lookup (is_key k) ids) false
