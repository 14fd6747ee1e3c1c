-- A driver table, and where it ends.
use Rattle.std.specs.Prelude.{◌≡◌, ◌≢◌, ℕ, ◌<◌, ◌≤◌, ◌⊎◌, Bool, true, false, List, [], ◌++◌, length, drop, take}
use Rattle.std.specs.Prelude.{codes, nat_eq}
use Rattle.std.specs.List.{AllByRecursion, ends_with, starts_with}
use Rattle.smx_words.specs.Words.{lines_text}
use Rattle.smx_text.specs.Grammar.{IsOneLine}
use Rattle.smx_run.specs.declared.input.TheConstants.{MAX_INPUT}
use Rattle.smx_live.specs.Inboxes.{HasLine, IsShort, IsTooLong}

-- whether a line begins like a driver line
abbrev pub begins_driver : List ℕ → Bool
begins_driver line = starts_with nat_eq line (codes "driver")

-- a driver line without a line feed, after a first line
abbrev pub IsCutDriver : List (List ℕ) → List ℕ → Type 0
IsCutDriver lines cut = (lines ≢ []) × IsOneLine cut × (begins_driver cut ≡ true)

-- The lines of a table: any first line, then lines that begin like driver lines; and a last one that is cut,
-- or none.
pub record AreOfTable (lines : List (List ℕ)) (cut : List ℕ) : Type 0 where
  pub each : AllByRecursion IsOneLine lines
  pub drivers : AllByRecursion (λ line. begins_driver line ≡ true) (drop 1 lines)
  pub last : (cut ≡ []) ⊎ IsCutDriver lines cut

-- the input has ended after these lines: within a driver line, which belongs to the table, or within another
-- line or none
abbrev pub EndsBehind : List (List ℕ) → List ℕ → List ℕ → Type 0
EndsBehind lines cut rest = (IsCutDriver lines cut × (rest ≡ []))
    ⊎ ((cut ≡ []) × IsShort rest × ((lines ≡ []) ⊎ (begins_driver rest ≡ false)))

-- a table of these lines has ended: the next line is not a driver line, or the input has ended before a next
-- line
abbrev pub IsOverAt : Bool → List (List ℕ) → List ℕ → List ℕ → Type 0
IsOverAt ended lines cut rest = ((n : ℕ) × (cut ≡ []) × HasLine n rest × (n ≤ MAX_INPUT) × (lines ≢ [])
    × (begins_driver (take n rest) ≡ false))
    ⊎ ((ended ≡ true) × EndsBehind lines cut rest)

-- a table, and what was read after it; the input has ended or not
pub record IsTable (ended : Bool) (table rest : List ℕ) : Type 0 where
  pub lines : List (List ℕ)
  pub cut : List ℕ
  pub text : table ≡ lines_text lines ++ cut
  pub of_table : AreOfTable lines cut
  pub over : IsOverAt ended lines cut rest

-- the bytes start with lines of a table; its text so far and the bytes after it are related as `AreSo` says
abbrev pub BeginsAsTable : List ℕ → (List ℕ → List ℕ → Type 0) → Type 0
BeginsAsTable read AreSo = (lines : List (List ℕ)) × (cut rest : List ℕ) × (read ≡ (lines_text lines ++ cut) ++ rest)
    × AreOfTable lines cut × AreSo (lines_text lines ++ cut) rest

-- the table can go on, and each whole line belongs to it
abbrev pub IsUnfinished : List ℕ → Type 0
IsUnfinished read = BeginsAsTable read (λ text rest. IsOneLine rest)

-- the table or the line after it has more than 16,777,216 bytes
abbrev pub IsEndlessTable : List ℕ → Type 0
IsEndlessTable read = BeginsAsTable read (λ text rest. (MAX_INPUT < length text) ⊎ IsTooLong rest)

-- the line `end`, if the last line of the table is whole
abbrev pub end_behind : Bool → List ℕ
end_behind true = codes "end\n"
end_behind false = []

-- a table as a programs text: followed by the line `end` if it has a line and its last one is whole
abbrev pub table_text : List ℕ → List ℕ
table_text table = table ++ end_behind (ends_with nat_eq table (codes "\n"))

-- what was read starts with a table, and `IsSo` holds of its text
abbrev pub HasTableOf : List ℕ → Bool → (List ℕ → Type 0) → Type 0
HasTableOf read ended IsSo =
    (table rest : List ℕ) × (read ≡ table ++ rest) × IsTable ended table rest × IsSo (table_text table)

-- what was read starts with a table of at most 16,777,216 bytes, and `IsSo` holds of its text
abbrev pub HasShortTableOf : List ℕ → Bool → (List ℕ → Type 0) → Type 0
HasShortTableOf read ended IsSo = (table rest : List ℕ) × (read ≡ table ++ rest) × IsTable ended table rest
    × (length table ≤ MAX_INPUT) × IsSo (table_text table)
