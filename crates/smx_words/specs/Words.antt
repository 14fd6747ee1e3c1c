-- Words, lines made of words, and texts made of lines.
use Rattle.std.specs.Prelude.{ℕ, ◌<◌, ◌≤◌, ◌≢◌, List, [], ◌∷◌, ◌++◌, length}
use Rattle.std.specs.List.{AllByRecursion, flat_map, join_with_byte}

-- the byte between two words
abbrev pub SPACE : ℕ
SPACE = 32

-- the byte between a command and its reply
abbrev pub EQUALS : ℕ
EQUALS = 61

-- the byte that ends a line
abbrev pub LINE_FEED : ℕ
LINE_FEED = 10

-- one or more bytes, each of which is visible
abbrev pub IsWord : List ℕ → Type 0
IsWord w = (0 < length w) × AllByRecursion (λ b. (0x21 ≤ b) × (b ≤ 0x7E)) w

-- one or more words
abbrev pub AreWords : List (List ℕ) → Type 0
AreWords words = AllByRecursion IsWord words × (0 < length words)

-- the byte does not occur in these bytes
abbrev pub IsFree : ℕ → List ℕ → Type 0
IsFree byte bytes = AllByRecursion (λ b. b ≢ byte) bytes

-- a line: its words with one space between them
abbrev pub line_of : List (List ℕ) → List ℕ
line_of words = join_with_byte SPACE words

-- these lines, each followed by a line feed
abbrev pub lines_text : List (List ℕ) → List ℕ
lines_text lines = flat_map (λ line. line ++ LINE_FEED ∷ []) lines

-- a text: its lines, each followed by a line feed
abbrev pub text_of : List (List (List ℕ)) → List ℕ
text_of lines = flat_map (λ words. line_of words ++ LINE_FEED ∷ []) lines
