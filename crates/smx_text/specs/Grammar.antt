-- A kind of text: the one text of each value, and where other bytes are invalid. No reader is mentioned.
use Rattle.std.specs.Prelude.{◌≡◌, ◌≢◌, ℕ, ◌+◌, List, [], ◌∷◌, ◌++◌, length, map, ◌⊎◌, Result, Ok, Err, IfErr}
use Rattle.std.specs.List.{AllByRecursion}
use Rattle.smx_types.specs.declared.version.Version.{Version}
use Rattle.smx_words.specs.Words.{LINE_FEED, line_of, text_of}
use Rattle.smx_text.specs.declared.text_fault.Cause.{Cause}
use Rattle.smx_text.specs.declared.text_fault.Cause.TheVariants as cause
use Rattle.smx_text.specs.declared.text_fault.TextFault.{TextFault}

-- How lines of K spell values of V: a header, the lines of the value, and a last line.
pub record Grammar (V K : Type 0) : Type 1 where
  -- the words of the first line
  pub header_words : List (List ℕ)
  -- the words of each line
  pub line_words : K → List (List ℕ)
  -- the line's contents can be spelled
  pub FitsLine : K → Type 0
  -- the lines between the header and the end
  pub body : V → List K
  -- the last line
  pub end : K
  -- the value is within the limits, and each of its lines can be spelled
  pub IsAllowed : V → Type 0

-- these bytes contain no line feed
abbrev pub IsOneLine : List ℕ → Type 0
IsOneLine text = AllByRecursion (λ b. b ≢ LINE_FEED) text

-- `bytes` start with `before`, followed by the whole line `text`; any bytes may follow
abbrev pub HasNext : List ℕ → List ℕ → List ℕ → Type 0
HasNext bytes before text = (after : List ℕ) × IsOneLine text × (bytes ≡ before ++ (text ++ LINE_FEED ∷ after))

module _ {V K : Type 0} (g : Grammar V K) where
  -- ---- texts

  -- the first line, without its line feed
  abbrev pub header : List ℕ
  header = line_of g.header_words

  -- a line as bytes, without its line feed
  abbrev pub line_text : K → List ℕ
  line_text k = line_of (g.line_words k)

  -- the header and these lines, each with its line feed
  abbrev pub beginning : List K → List ℕ
  beginning lines = text_of (g.header_words ∷ map g.line_words lines)

  -- the one text of a value
  abbrev pub full_text : V → List ℕ
  full_text v = text_of (g.header_words ∷ map g.line_words (g.body v) ++ g.line_words g.end ∷ [])

  -- `bytes` spell `v`
  pub record Spells (bytes : List ℕ) (v : V) : Type 0 where
    pub allowed : g.IsAllowed v
    pub text : bytes ≡ full_text v

  -- ---- lines, and the line after them

  -- `lines` are a prefix of the lines of some allowed value
  abbrev pub IsBegun : List K → Type 0
  IsBegun lines = (v : V) × (more : List K) × g.IsAllowed v × (g.body v ≡ lines ++ more)

  -- the lines of `v`, with the end line, start with `lines` and then `k`
  abbrev pub GoesOn : V → List K → K → Type 0
  GoesOn v lines k = (more : List K) × (g.body v ++ g.end ∷ [] ≡ lines ++ k ∷ more)

  -- some value has `k` after `lines`; the value may exceed the limits
  abbrev pub MayFollow : List K → K → Type 0
  MayFollow lines k = (v : V) × GoesOn v lines k

  -- no allowed value has `k` after `lines`: the limit for lines of its kind is reached
  abbrev pub IsFull : List K → K → Type 0
  IsFull lines k = (v : V) → g.IsAllowed v → GoesOn v lines k → ⊥

  -- `text` spells no line that may follow `lines`
  abbrev pub IsNoLine : List K → List ℕ → Type 0
  IsNoLine lines text = (k : K) → g.FitsLine k → MayFollow lines k → text ≢ line_text k

  -- `text` spells a line that may follow `lines` but is over the limit
  abbrev pub IsOneTooMany : List K → List ℕ → Type 0
  IsOneTooMany lines text = (k : K) × (text ≡ line_text k) × g.FitsLine k × MayFollow lines k × IsFull lines k

  -- `text` spells a line that some allowed value has after `lines`
  abbrev pub IsOneMore : List K → List ℕ → Type 0
  IsOneMore lines text = (k : K) × (text ≡ line_text k) × IsBegun (lines ++ k ∷ [])

  -- ---- where a text is invalid

  -- line `number` is whole and is `text`; the lines before it are `lines`, a prefix of some allowed value's lines
  pub record Reaches (bytes : List ℕ) (lines : List K) (text : List ℕ) (number : ℕ) : Type 0 where
    pub begun : IsBegun lines
    pub next : HasNext bytes (beginning lines) text
    pub numbered : number ≡ length lines + 2

  -- `before` is empty, or a header and a prefix of some allowed value's lines; line `number` comes next
  abbrev pub Begins : List ℕ → ℕ → Type 0
  Begins before number = ((before ≡ []) × (number ≡ 1))
      ⊎ ((lines : List K) × IsBegun lines × (before ≡ beginning lines) × (number ≡ length lines + 2))

  -- When a text has a fault at line `number`, for each cause. Lines are numbered from 1.
  --   Header: the first line is whole, and is not the header
  --   Form: the line is whole, and spells nothing that may follow
  --   Many: the line may follow, but the limit for its kind is reached
  --   Cut: the line is not whole
  --   Trailing: the line contains the first byte after the text of some value
  --   NoMemory: some allowed value has this line here, so no other cause applies at this line or before it
  abbrev pub IsFault : List ℕ → ℕ → Cause → Type 0
  IsFault bytes number cause.Header = (text : List ℕ) × HasNext bytes [] text × (text ≢ header) × (number ≡ 1)
  IsFault bytes number cause.Form = (lines : List K) × (text : List ℕ) × Reaches bytes lines text number
      × IsNoLine lines text
  IsFault bytes number cause.Many = (lines : List K) × (text : List ℕ) × Reaches bytes lines text number
      × IsOneTooMany lines text
  IsFault bytes number cause.Cut = (before last : List ℕ) × Begins before number × IsOneLine last
      × (bytes ≡ before ++ last)
  IsFault bytes number cause.Trailing = (v : V) × (byte : ℕ) × (more : List ℕ) × g.IsAllowed v
      × (bytes ≡ full_text v ++ byte ∷ more) × (number ≡ length (g.body v) + 3)
  IsFault bytes number cause.NoMemory = (lines : List K) × (text : List ℕ) × Reaches bytes lines text number
      × IsOneMore lines text

  -- the results that a reader may return: the value that the bytes spell, or the first fault
  abbrev pub Reads : List ℕ → Result V TextFault → Type 0
  Reads bytes (Ok v) = Spells bytes v
  Reads bytes (Err f) = IsFault bytes f.line f.cause

  -- the line at which a result ends: the last line, or the line of the fault
  abbrev pub last_line : Result V TextFault → ℕ
  last_line (Ok v) = length (g.body v) + 2
  last_line (Err f) = f.line

-- ---- texts of several versions

-- The results that a reader of all versions may return: those of a reader of some version. But it may report a wrong
-- header only if the header is wrong in every version. So the header says which version a text has.
abbrev pub ReadsAny : {V K : Type 0} → (Version → Grammar V K) → List ℕ → Result V TextFault → Type 0
ReadsAny {V} {K} g bytes r = (version : Version) × Reads (g version) bytes r
    × IfErr r (λ f. f.cause ≡ cause.Header → (other : Version) → IsFault (g other) bytes f.line cause.Header)
