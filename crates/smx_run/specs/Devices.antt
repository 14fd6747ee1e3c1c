-- A reader and a writer before any failure, and the bytes of a write that ends early.
use Rattle.std.specs.Prelude.{◌≡◌, ℕ, Bool, false, List, take, Option}
use Rattle.std.specs.Io.KnownBytes.{Appends}

-- the reader has not ended, and neither the reader nor the writer has failed
pub record AreReady (ended : Bool) (read_failures write_failures : ℕ) : Type 0 where
  pub before_the_end : ended ≡ false
  pub fed : read_failures ≡ 0
  pub sunk : write_failures ≡ 0

-- exactly a beginning of these bytes was written
abbrev pub AppendsBeginning : Option (List ℕ) → Option (List ℕ) → List ℕ → Type 0
AppendsBeginning old new bytes = (n : ℕ) × Appends old new (take n bytes)
