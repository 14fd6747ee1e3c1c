-- One word of bits for each driver: bit b of word a is set if a path leads from driver a to driver b.
use Rattle.std.specs.Prelude.{◌≡◌, ℕ, ◌<◌, Bool, true, false, ◌&&◌, ◌||◌, ◌==◌, List, slice_index}
use Rattle.std.specs.Int.{bit_at}
use Rattle.smx_types.specs.declared.link.Link.{Link}
use Rattle.smx_model.specs.Paths.{reaches}

-- bit b is set
abbrev pub is_set : ℕ → ℕ → Bool
is_set w b = bit_at w b == 1

-- bit b of word a is set; no bit is set past the last word
abbrev pub has_bit : List ℕ → ℕ → ℕ → Bool
has_bit ws a b = is_set (slice_index ws a) b

-- whether some bit of word a is set
abbrev pub HasAnyBit : List ℕ → ℕ → Bool → Type 0
HasAnyBit ws a true = (b : ℕ) × (has_bit ws a b ≡ true)
HasAnyBit ws a false = (b : ℕ) → has_bit ws a b ≡ false

-- driver l and all drivers that it reaches are added to those that u reaches, and to those of each driver that reaches
-- u
abbrev pub AreJoined : List ℕ → ℕ → ℕ → List ℕ → Type 0
AreJoined old u l new = (a b : ℕ)
    → has_bit new a b ≡ (has_bit old a b || (((a == u) || has_bit old a u) && ((l == b) || has_bit old l b)))

-- bit b of word a is set exactly if a path leads from driver a to driver b
abbrev pub AreMasks : List Link → List ℕ → Type 0
AreMasks links ws = (a b : ℕ) → has_bit ws a b ≡ reaches links a b

-- both drivers are below n
abbrev pub IsWithin : ℕ → Link → Type 0
IsWithin n l = (l.ctl.driver < n) × (l.lower.driver < n)
