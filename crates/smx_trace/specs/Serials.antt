-- Queued messages by their serials. No public clause needs this.
use Rattle.std.specs.Prelude.{◌≡◌, ◌≢◌, ℕ, Bool, ◌==◌, List, find, Option, slice_get}
use Rattle.smx_types.specs.contracts.view.MessageLinePartialEq.TheImpl as of_message
use Rattle.smx_types.specs.declared.view.MessageLine.{MessageLine}
use Rattle.smx_model.specs.Ordered.{AllLater}
use Rattle.smx_model.specs.Settling.{◌>>=◌}

-- `==` of lines of messages
abbrev pub same_line : MessageLine → MessageLine → Bool
same_line = of_message.ghosts.eq

-- the message with this serial is found at the index that the map has for it
abbrev pub FindsBySerial : (ℕ → Option ℕ) → List MessageLine → List MessageLine → Type 0
FindsBySerial index lines part = (n : ℕ) → (index n >>= slice_get lines) ≡ find (λ m. n == m.message.serial) part

-- no two messages have the same serial
abbrev pub AreSerialsApart : List MessageLine → Type 0
AreSerialsApart lines = AllLater (λ m n. m.message.serial ≢ n.message.serial) lines
