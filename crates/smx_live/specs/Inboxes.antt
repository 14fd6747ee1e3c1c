-- Reading a feed line by line.
use Rattle.std.specs.Prelude.{◌≡◌, ℕ, ◌+◌, ◌<◌, ◌≤◌, ◌⊎◌, Bool, true, false, List, [], ◌∷◌, ◌++◌, length, take, drop}
use Rattle.std.specs.Prelude.{Option, Some, None, Result, Ok, Err, IfOk, IfErr, OnOk}
use Rattle.std.specs.Io.KnownBytes.{Consumes}
use Rattle.smx_run.specs.declared.run_fault.RunFault.TheVariants.{NoMemory}
use Rattle.smx_words.specs.Words.{LINE_FEED}
use Rattle.smx_text.specs.Grammar.{IsOneLine}
use Rattle.smx_run.specs.declared.input.TheConstants.{MAX_INPUT}
use Rattle.smx_run.specs.declared.main_fault.MainFault.{MainFault}
use Rattle.smx_run.specs.declared.main_fault.MainFault.TheVariants.{Refused, Text, TooLong, ReadFailed, WriteFailed}
use Rattle.smx_live.specs.declared.inbox.Inbox.{Inbox}

-- the bytes start with a whole line of `n` bytes and its line feed
pub record HasLine (n : ℕ) (bytes : List ℕ) : Type 0 where
  pub within : n < length bytes
  pub one : IsOneLine (take n bytes)
  pub parts : bytes ≡ take n bytes ++ LINE_FEED ∷ drop (n + 1) bytes

-- a line that a session accepts: one line, of at most 16,777,216 bytes
abbrev pub IsShort : List ℕ → Type 0
IsShort line = IsOneLine line × (length line ≤ MAX_INPUT)

-- the first line of these bytes is over the limit: it has more than 16,777,216 bytes, whole or not
abbrev pub IsTooLong : List ℕ → Type 0
IsTooLong bytes = (n : ℕ) × (MAX_INPUT < n) × (n ≤ length bytes) × IsOneLine (take n bytes)

-- why no line came from a feed with this number of failures: what was read is too long, as `Long` says; or a
-- read failed, and until then all was unfinished, as `Unfinished` says; or memory ran out
abbrev pub FailsToRead : Type 0 → Type 0 → ℕ → MainFault → Type 0
FailsToRead Long Unfinished failures TooLong = (failures ≡ 0) × Long
FailsToRead Long Unfinished failures ReadFailed = (failures ≡ 1) × Unfinished
FailsToRead Long Unfinished failures (Refused fault) = (failures ≡ 0) × (fault ≡ NoMemory)
FailsToRead Long Unfinished failures (Text fault) = ⊥
FailsToRead Long Unfinished failures WriteFailed = ⊥

-- One read of a feed that had `had` and has `left`, has ended or not, and has failed this number of times. It
-- read exactly these bytes, and they follow those that were held.
pub record IsPiece (had left : Option (List ℕ)) (ended : Bool) (failures : ℕ) (held now read : List ℕ)
    (result : Result Bool MainFault) : Type 0 where
  pub consumed : Consumes had left read
  pub held_now : OnOk result (now ≡ held ++ read)
  pub some : IfOk result (λ more. ((more ≡ true) × (0 < length read) × (ended ≡ false))
      ⊎ ((more ≡ false) × (read ≡ []) × (ended ≡ true)))
  pub fine : OnOk result (failures ≡ 0)
  pub fault : IfErr result (FailsToRead ⊥ (read ≡ []) failures)

-- the inbox holds a whole line of `n` bytes, which is accepted; or it holds none, and no more bytes come
abbrev pub IsFound : Bool → List ℕ → Option ℕ → Type 0
IsFound ended held (Some n) = HasLine n held × (n ≤ MAX_INPUT)
IsFound ended held None = (ended ≡ true) × IsShort held

-- a whole line or the end of the feed came, and all that was read is held; or nothing that can be taken came
abbrev pub LineComes : Bool → ℕ → Inbox → List ℕ → Result (Option ℕ) MainFault → Type 0
LineComes ended failures new all (Ok line) = record {
  held : new.held.items ≡ all;
  end : ended ≡ new.ended;
  fine : failures ≡ 0;
  found : IsFound ended new.held.items line;
}
LineComes ended failures new all (Err fault) = FailsToRead (IsTooLong all) (IsOneLine all) failures fault

-- reads up to a whole line read exactly these bytes; none if there was such a line, or if the feed had ended
pub record IsNextLine (had left : Option (List ℕ)) (ended : Bool) (failures : ℕ) (old new : Inbox) (read : List ℕ)
    (result : Result (Option ℕ) MainFault) : Type 0 where
  pub consumed : Consumes had left read
  pub came : LineComes ended failures new (old.held.items ++ read) result
  pub stays : old.ended ≡ true → (read ≡ []) × (ended ≡ true)
