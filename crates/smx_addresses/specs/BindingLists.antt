-- The value of a table of bindings, as contracts see it.
use Rattle.std.specs.Prelude.{ℕ, Bool, ◌==◌, ◌&&◌, ◌||◌, List}
use Rattle.std.specs.List.{list_any}
use Rattle.smx_types.specs.declared.link.Binding.{Binding}
use Rattle.smx_types.specs.declared.stream.StreamId.{StreamId}
use Rattle.smx_model.specs.Configuration.{bind_before}
use Rattle.smx_model.specs.Ordered.{IsRising}
use Rattle.smx_addresses.specs.Keys.{Key, AreApart}

-- the driver and its address
abbrev pub address_of : Binding → Key
address_of b = (b.driver, b.addr)

-- the stream: its driver and its minor
abbrev pub stream_of : Binding → Key
stream_of b = (b.driver, b.minor)

-- by driver and address, so without duplicate addresses, and without duplicate streams
pub record IsBindingList (binds : List Binding) : Type 0 where
  pub rise : IsRising bind_before binds
  pub streams : AreApart stream_of binds

-- the binding is the stream's
abbrev pub is_binding_of : StreamId → Binding → Bool
is_binding_of s b = (b.driver == s.driver) && (b.minor == s.minor)

-- the driver has bound the address, or the stream has an address
abbrev pub is_taken : List Binding → StreamId → ℕ → Bool
is_taken binds s addr = list_any (λ b. (b.driver == s.driver) && ((b.addr == addr) || (b.minor == s.minor))) binds
