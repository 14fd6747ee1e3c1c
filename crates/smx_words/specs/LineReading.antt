-- The results that a reader may return. No reader is mentioned.
use Rattle.std.specs.Prelude.{◌≡◌, ◌≢◌, ℕ, List, ◌++◌, ◌∷◌, Option, Some, None, MatchOption}
use denote.Ref.{Bor}
use Rattle.smx_types.specs.declared.version.Version.{Version}
use Rattle.smx_words.specs.Spellable.{FitsCallIn, FitsCommandIn, FitsEntryIn}
use Rattle.smx_words.specs.Spelling.{call_words, command_words, entry_words}
use Rattle.smx_words.specs.Words.{AreWords, SPACE, line_of}

-- a value that fits and that the bytes spell, or `None` if they spell no such value
abbrev pub IsFoundIn : {X : Type 0} → (X → Type 0) → (X → List ℕ) → List ℕ → Option X → Type 0
IsFoundIn {X} Fits spelling bytes (Some x) = Fits x × (bytes ≡ spelling x)
IsFoundIn {X} Fits spelling bytes None = (x : X) → Fits x → bytes ≢ spelling x

-- a value that fits and whose words are the line, or `None` if no such value has this line
abbrev pub IsReadAs : {X : Type 0} → (X → Type 0) → (X → List (List ℕ)) → List ℕ → Option X → Type 0
IsReadAs {X} Fits words_of line answer = IsFoundIn Fits (λ x. line_of (words_of x)) line answer

-- A value whose word and a space start the bytes, and the bytes after that space. These bytes are the same for each
-- such value. Or `None`, if there is no such value.
abbrev pub BeginsWith : {X : Type 0} → (X → Type 0) → (X → List ℕ) → List ℕ → Option (X × Bor (List ℕ)) → Type 0
BeginsWith {X} Fits word_of bytes answer =
    MatchOption answer ((x : X) (after : List ℕ) → Fits x → bytes ≢ word_of x ++ SPACE ∷ after)
    (λ p. Fits p.0 × (bytes ≡ word_of p.0 ++ SPACE ∷ p.1.now)
    × ((x : X) (after : List ℕ) → Fits x → bytes ≡ word_of x ++ SPACE ∷ after → after ≡ p.1.now))

-- the bytes spell some value that fits
abbrev pub IsSpelled : {X : Type 0} → (X → Type 0) → (X → List ℕ) → List ℕ → Type 0
IsSpelled {X} Fits spelling bytes = (x : X) × Fits x × (bytes ≡ spelling x)

-- the line is the words of some value that fits
abbrev pub IsLineOf : {X : Type 0} → (X → Type 0) → (X → List (List ℕ)) → List ℕ → Type 0
IsLineOf {X} Fits words_of line = IsSpelled Fits (λ x. line_of (words_of x)) line

-- each value that fits is spelled by one or more words
abbrev pub AreSpelledByWords : {X : Type 0} → (X → Type 0) → (X → List (List ℕ)) → Type 0
AreSpelledByWords {X} Fits words_of = (x : X) → Fits x → AreWords (words_of x)

-- two values that fit are equal if their words make the same line
abbrev pub HaveOwnLines : {X : Type 0} → (X → Type 0) → (X → List (List ℕ)) → Type 0
HaveOwnLines {X} Fits words_of = (x y : X) → Fits x → Fits y → line_of (words_of x) ≡ line_of (words_of y) → x ≡ y

-- each line has a reading: a value that fits and whose words it is, or none if there is no such value
abbrev pub HaveReadings : {X : Type 0} → (X → Type 0) → (X → List (List ℕ)) → Type 0
HaveReadings {X} Fits words_of = (line : List ℕ) → (o : Option X) × IsReadAs Fits words_of line o

-- the line is the words of a command of this version
abbrev pub IsCommandLine : Version → List ℕ → Type 0
IsCommandLine version line = IsLineOf (FitsCommandIn version) command_words line

-- the line is not the words of a command of this version
abbrev pub IsNoCommandLine : Version → List ℕ → Type 0
IsNoCommandLine version line = IsReadAs (FitsCommandIn version) command_words line None

-- the line is the words of a call of this version
abbrev pub IsCallLine : Version → List ℕ → Type 0
IsCallLine version line = IsLineOf (FitsCallIn version) call_words line

-- the line is not the words of a call of this version
abbrev pub IsNoCallLine : Version → List ℕ → Type 0
IsNoCallLine version line = IsReadAs (FitsCallIn version) call_words line None

-- the line is the words of an entry of this version
abbrev pub IsEntryLine : Version → List ℕ → Type 0
IsEntryLine version line = IsLineOf (FitsEntryIn version) entry_words line
