-- The row of a word in a table.
use Rattle.smx_explain.proofs.Common.{◌≡◌, ◌≢◌, ℕ, ◌≤◌, Bool, true, false, List, [], ◌∷◌, ◌++◌, length, take, drop}
use Rattle.smx_explain.proofs.Common.{Option, Some, None, inl, inr, sym, subst, ◌∙◌, Bor, arith, rules}
use Rattle.smx_explain.proofs.Common.{AllByRecursion, decimal, FitsNumber, Version, V1, V2, IsFixed, IsRow}
use Rattle.smx_explain.proofs.Common.{later_rows, rows, rows_in, WordRow, Choice, Equals, Value}
use Rattle.std.proofs.Common.{◌-◌, get_or, MatchOption}
use Rattle.std.specs.Prelude.{bytes_eq}
use Rattle.std.proofs.lemmas.Fmt.{decimal_injective}
use Rattle.std.proofs.lemmas.List.{take_rest}
use Rattle.std.proofs.lemmas.Slice.Eq.{bytes_eq-Decides}
use Rattle.smx_types.specs.declared.limits.TheConstants.{MAX_PROCESSES}
use Rattle.smx_words.specs.LineReading.{IsSpelled}
use Rattle.smx_words.specs.Spellable.{FitsProcess}
use Rattle.smx_text.proofs.EachLemmas.{all_append}
use Rattle.smx_explain.specs.Rows.{IsNoRow, rows_of}
use Rattle.smx_explain.specs.declared.kinds.Choice.TheVariants.{Command}
use Rattle.smx_explain.specs.declared.rows.FoundRow.{FoundRow}

-- a row as the code stores it
abbrev StoredRow : Type 0
StoredRow = Bor (List ℕ) × Bor (List Value) × Choice

-- what the search for a word in some rows finds
abbrev Tells : List StoredRow → List ℕ → Option FoundRow → Type 0
Tells rows word o =
    MatchOption o (IsNoRow (rows_of rows) word) (λ row. IsRow (rows_of rows) word row.values.now row.next)

-- bytes that a comparison finds different are not the same
differ : (xs ys : List ℕ) → bytes_eq xs ys ≡ false → ys ≢ xs
differ xs ys other e =
    let same : bytes_eq xs ys ≡ true = (bytes_eq-Decides xs ys).1 (sym e) in absurd (cc (other, same))

-- one more row in front, with another word, changes nothing of what the search finds
one_more : (row : StoredRow) (rows : List StoredRow) (word : List ℕ) (o : Option FoundRow) → word ≢ row.0.now
    → Tells rows word o → Tells (row ∷ rows) word o
one_more row rows word None other h = (other, h)
one_more row rows word (Some found) other h = inr h

-- if the first row has another word, the search finds what it finds in the other rows
pub passed : (rows : List StoredRow) (word first : List ℕ) (d : StoredRow) (o : Option FoundRow) (test : Bool)
    → 1 ≤ length rows → first ≡ (get_or rows 0 d).0.now → test ≡ bytes_eq first word → test ≡ false
    → Tells (take (length rows - 1) (drop 1 rows)) word o → Tells rows word o
passed [] word first d o test some is says other h = absurd (omega (arith, some))
passed (row ∷ rows) word first d o test some is says other h =
    one_more row rows word o (subst (λ (xs : List ℕ). word ≢ xs) is (differ first word (sym says ∙ other)))
    (subst (λ (more : List StoredRow). Tells more word o) (take_rest (row ∷ rows) 1) h)

-- ---- two tables

-- a row of the second of two tables is a row of both joined
pub in_second : (ks ls : List WordRow) (word : List ℕ) (values : List Value) (next : Choice)
    → IsRow ls word values next → IsRow (ks ++ ls) word values next
in_second [] ls word values next is = is
in_second (k ∷ ks) ls word values next is = inr (in_second ks ls word values next is)

-- ---- all rows of a table

-- what holds of each row of a table holds of a word with its values and its choice
pub row_of : (P : WordRow → Type 0) (ks : List WordRow) → AllByRecursion P ks → (word : List ℕ) (values : List Value)
    (next : Choice) → IsRow ks word values next → P (word, values, next)
row_of P [] all word values next is = absurd is
row_of P (k ∷ ks) all word values next (inl is) = rw (is.0, is.1, is.2) all.0
row_of P (k ∷ ks) all word values next (inr is) = row_of P ks all.1 word values next is

-- what holds of the rows of both versions, and of those that version 2 adds, holds of the rows of each version
pub all_rows : (P : Version → WordRow → Type 0) (choice : Choice)
    → ((v : Version) → AllByRecursion (P v) (rows choice)) → AllByRecursion (P V2) (later_rows choice)
    → (version : Version) → AllByRecursion (P version) (rows_in version choice)
all_rows P choice all later V1 = all V1
all_rows P choice all later V2 = all_append (P V2) (later_rows choice) (rows choice) later (all V2)

-- ---- values

-- a number that is not one of a process is not spelled as one
pub no_process : (word : List ℕ) (n : ℕ) → FitsNumber n → word ≡ decimal n → MAX_PROCESSES ≤ n
    → IsSpelled FitsProcess decimal word → ⊥
no_process word n fits is large (p, small, same) =
    let equal : n ≡ p = decimal_injective n p (omega (arith, fits)) (omega (arith, small)) (sym is ∙ same) in
    absurd (omega (arith, large, small, equal))

-- ---- commands

-- each of these rows has this choice
abbrev AllChoose : Choice → List WordRow → Type 0
AllChoose next rows = AllByRecursion (λ row. row.2 ≡ next) rows

-- after each command of a version the equals sign is expected
all_equals : (version : Version) → AllChoose Equals (rows_in version Command)
all_equals V1 = search rules
all_equals V2 = search rules

-- after each command comes an equals sign
pub equals_behind : (version : Version) (word : List ℕ) (values : List Value) (next : Choice)
    → IsFixed version Command word values next → next ≡ Equals
equals_behind version = row_of (λ row. row.2 ≡ Equals) (rows_in version Command) (all_equals version)
