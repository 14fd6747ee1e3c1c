-- How a draft treats the next line. No public clause needs this.
use Rattle.std.specs.Prelude.{◌≡◌, ℕ, ◌+◌, ◌<◌, List, [], ◌∷◌, ◌++◌, length, ◌⊎◌, Option, Some, None, Result, Ok, Err}
use Rattle.smx_text.specs.declared.text_fault.Cause.{Cause}
use Rattle.smx_text.specs.declared.text_fault.Cause.TheVariants as cause
use Rattle.smx_text.specs.declared.text_fault.TextFault.{TextFault}
use Rattle.smx_text.specs.Grammar.{Grammar, line_text, IsBegun, MayFollow, IsFull, IsNoLine, IsOneTooMany, IsOneMore}

module _ {V K : Type 0} (g : Grammar V K) where
  -- ---- a line as bytes

  -- why `text` is refused after `lines`
  abbrev pub Refuses : List K → List ℕ → Cause → Type 0
  Refuses lines text cause.Form = IsNoLine g lines text
  Refuses lines text cause.Many = IsOneTooMany g lines text
  Refuses lines text cause.NoMemory = IsOneMore g lines text
  Refuses lines text cause.Header = ⊥
  Refuses lines text cause.Cut = ⊥
  Refuses lines text cause.Trailing = ⊥

  -- the result at the end line: `v` is allowed and these are all its lines, or the text may not end here
  abbrev pub EndsAs : List K → Option V → Type 0
  EndsAs lines None = IsNoLine g lines (line_text g g.end)
  EndsAs lines (Some v) = g.IsAllowed v × (g.body v ≡ lines)

  -- the result at the end line, which has the number `number` and is followed by the bytes `after`
  abbrev pub EndsText : List K → List ℕ → ℕ → Result V TextFault → Type 0
  EndsText lines after number (Ok v) = g.IsAllowed v × (g.body v ≡ lines) × (length after ≡ 0)
  EndsText lines after number (Err f) =
      (IsNoLine g lines (line_text g g.end) × (f ≡ record { line = number; cause = cause.Form }))
      ⊎ ((v : V) × g.IsAllowed v × (g.body v ≡ lines) × (0 < length after)
      × (f ≡ record { line = number + 1; cause = cause.Trailing }))

  -- ---- a parsed line

  -- `longer` is `lines` with `k` added, and is a prefix of some allowed value's lines
  abbrev pub AddsLine : List K → K → List K → Type 0
  AddsLine lines k longer = (longer ≡ lines ++ k ∷ []) × IsBegun g longer

  -- why the parsed line `k` is refused after `lines`
  abbrev pub RefusesLine : List K → K → Cause → Type 0
  RefusesLine lines k cause.Form = MayFollow g lines k → ⊥
  RefusesLine lines k cause.Many = MayFollow g lines k × IsFull g lines k
  RefusesLine lines k cause.NoMemory = IsBegun g (lines ++ k ∷ [])
  RefusesLine lines k cause.Header = ⊥
  RefusesLine lines k cause.Cut = ⊥
  RefusesLine lines k cause.Trailing = ⊥

  -- ---- the result for a line

  -- for a parsed line: `longer` is `lines` with the line added, or the cause of its refusal
  abbrev pub AnswersLine : {A : Type 0} → List K → K → List K → Result A Cause → Type 0
  AnswersLine lines k longer (Ok x) = AddsLine lines k longer
  AnswersLine lines k longer (Err why) = RefusesLine lines k why

  -- `text` spells a line that some allowed value has after `lines`; `longer` is `lines` with that line added
  abbrev pub Continues : List K → List ℕ → List K → Type 0
  Continues lines text longer = (k : K) × (text ≡ line_text g k) × (longer ≡ lines ++ k ∷ []) × IsBegun g longer

  -- for a line as bytes: some allowed value has it after `lines`, or the cause of its refusal
  abbrev pub AnswersText : {A : Type 0} → List K → List ℕ → List K → Result A Cause → Type 0
  AnswersText lines text longer (Ok x) = Continues lines text longer
  AnswersText lines text longer (Err why) = Refuses lines text why
