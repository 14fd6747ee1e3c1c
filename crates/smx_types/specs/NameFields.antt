-- The fields that hold a name's text. No public clause needs this.
use Rattle.std.specs.Prelude.{◌≡◌, ℕ, IsTrue, List, take, length}
use Rattle.std.proofs.Common.{sym, ap, ◌∙◌}
use Rattle.smx_types.specs.declared.name.Name.TheInside.{Inside}
use Rattle.smx_types.specs.Names.{is_name, padded}

-- the first `len` bytes spell a name, and the other bytes are zero
pub record IsPadded (n : Inside) : Type 0 where
  pub spelled : IsTrue (is_name (take n.len n.bytes))
  pub len : n.len ≡ length (take n.len n.bytes)
  pub padding : n.bytes ≡ padded (take n.len n.bytes)

-- the fields that hold this length and these bytes
abbrev inside : ℕ → List ℕ → Inside
inside len bytes = record { len = len; bytes = bytes }

-- the text that a name's fields hold gives the same fields again
pub padded_view : (n : Inside) → IsPadded n
    → record { len = length (take n.len n.bytes); bytes = padded (take n.len n.bytes) } ≡ n
padded_view n h =
    ap (λ (len : ℕ). inside len (padded (take n.len n.bytes))) (sym h.len) ∙ ap (inside n.len) (sym h.padding)
