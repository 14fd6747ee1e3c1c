-- Each text has a reading, for any kind of text in which every line is decided.
use Rattle.smx_text.proofs.Common.{◌≢◌, suc, ◌+◌, ◌<◌, refl, ap, ◌∙◌, arith, inl, inr, ◌⊎◌, IfErr, length-append}
use Rattle.smx_text.proofs.Common.{bytes_eq, LINE_FEED, line_of, Cause, TextFault, Grammar, IsOneLine, header}
use Rattle.smx_text.proofs.Common.{line_text, IsBegun, IsNoLine, IsFault, Reads}
use Rattle.std.proofs.Common.{◌≡◌, ℕ, zero, Bool, true, false, List, [], ◌∷◌, ◌++◌, length, Option, Some, None}
use Rattle.std.proofs.Common.{Result, Ok, Err}
use Rattle.std.proofs.lemmas.Slice.Eq.{bytes_eq-Decides}
use Rattle.smx_words.specs.LineReading.{IsReadAs}
use Rattle.smx_text.specs.declared.text_fault.Cause.TheVariants as cause
use Rattle.smx_text.specs.Grammar.{IsOneTooMany, IsOneMore}
use Rattle.smx_text.proofs.ReadingLemmas.{IsBetween, started, cut_at, refused, one_more, read_to_end}
use Rattle.smx_text.proofs.LineLemmas.{first_line}
use Rattle.smx_text.proofs.GrammarLemmas.{IsWellMade}

-- a line after these lines: it is accepted, refused with `Form` or `Many`, or the end line of an allowed value
abbrev pub Decision : {V K : Type 0} → Grammar V K → List K → List ℕ → Type 0
Decision {V} {K} g lines text =
    IsOneMore g lines text
    ⊎ (IsNoLine g lines text
    ⊎ (IsOneTooMany g lines text
    ⊎ ((text ≡ line_text g g.end) × (v : V) × g.IsAllowed v × (g.body v ≡ lines))))

-- a text is decided if it is decided both when it reads as some words and when it reads as none
pub by_reading : {X D : Type 0} {Fits : X → Type 0} (words : X → List (List ℕ)) {text : List ℕ}
    → (o : Option X) × IsReadAs Fits words text o → ((x : X) → Fits x → text ≡ line_of (words x) → D)
    → (((x : X) → Fits x → text ≢ line_of (words x)) → D) → D
by_reading words (Some x, (fits, is)) some none = some x fits is
by_reading words (None, unread) some none = none unread

-- a result other than out of memory
abbrev pub HasReading : {V K : Type 0} → Grammar V K → List ℕ → Type 0
HasReading {V} g bytes = (r : Result V TextFault) × Reads g bytes r × IfErr r (λ f. f.cause ≢ cause.NoMemory)

module _ {V K : Type 0} (g : Grammar V K) (made : IsWellMade g) (decides : (lines : List K) → IsBegun g lines
    → (text : List ℕ) → Decision g lines text) where
  -- bytes with a fault other than out of memory have a reading
  stops : (bytes : List ℕ) (n : ℕ) (c : Cause) → IsFault g bytes n c → c ≢ cause.NoMemory → HasReading g bytes
  stops bytes n c fault other = (Err (record { line = n; cause = c }), fault, other)

  -- bytes whose last line follows all lines of an allowed value have a reading
  ends : (bytes rest : List ℕ) (lines : List K) (number : ℕ) (text after : List ℕ)
      → IsBetween g bytes rest lines number → IsOneLine text × (rest ≡ text ++ LINE_FEED ∷ after)
      → (text ≡ line_text g g.end) → (v : V) → g.IsAllowed v → g.body v ≡ lines → HasReading g bytes
  ends bytes rest lines number text [] at next end v allowed e =
      (Ok v, read_to_end g bytes rest lines number text [] at next end (Ok v) (allowed, e, refl), tt)
  ends bytes rest lines number text (b ∷ after) at next end v allowed e =
      let fault : TextFault = record { line = number + 1; cause = cause.Trailing } in (
        Err fault,
        read_to_end g bytes rest lines number text (b ∷ after) at next end (Err fault)
            (inr (v, allowed, e, omega arith, refl)),
        λ c. cc,
      )

  -- bytes of which some lines were read have a reading, by induction on the number of bytes left
  goes : (n : ℕ) (bytes rest : List ℕ) (lines : List K) (number : ℕ) → length rest < n
      → IsBetween g bytes rest lines number → HasReading g bytes
  goes zero bytes rest lines number short at = absurd (omega arith)
  goes (suc n) bytes rest lines number short at = elim (first_line rest) [
    | inl one ↦ stops bytes number cause.Cut (cut_at g bytes rest lines number at one) (λ c. cc)
    | inr (text, after, one, e) ↦ elim (decides lines at.begun text) [
      | inl (k, is, begun) ↦ let longer = lines ++ k ∷ [] in
          goes n bytes after longer (number + 1)
          (omega (arith, ap (length {A = ℕ}) e, length-append text (LINE_FEED ∷ after)))
          (one_more g bytes rest lines number text after at (one, e) longer (k, is, refl, begun))
      | inr (inl form) ↦ stops bytes number cause.Form
          (refused g bytes rest lines number text after at (one, e) cause.Form form) (λ c. cc)
      | inr (inr (inl many)) ↦ stops bytes number cause.Many
          (refused g bytes rest lines number text after at (one, e) cause.Many many) (λ c. cc)
      | inr (inr (inr (end, v, allowed, is))) ↦ ends bytes rest lines number text after at (one, e) end v allowed is
    ]
  ]

  -- if every line after others is decided, any bytes spell a value or have a first fault
  pub has_reading : IsBegun g [] → (bytes : List ℕ) → HasReading g bytes
  has_reading begun bytes = elim (first_line bytes) [
    | inl one ↦ stops bytes 1 cause.Cut ([], bytes, inl (refl, refl), one, refl) (λ c. cc)
    | inr (text, after, one, e) ↦ by_header (bytes_eq text (header g)) text after refl one e
  ] where
    by_header : (b : Bool) (text after : List ℕ) → bytes_eq text (header g) ≡ b → IsOneLine text
        → bytes ≡ text ++ LINE_FEED ∷ after → HasReading g bytes
    by_header true text after is one e =
        let same = (bytes_eq-Decides text (header g)).0 is in
        goes (suc (length after)) bytes after [] 2 (omega arith)
        (started g bytes after [] begun refl (e ∙ ap (λ (xs : List ℕ). xs ++ LINE_FEED ∷ after) same))
    by_header false text after is one e =
        let differ : text ≢ header g = λ same. let yes = (bytes_eq-Decides text (header g)).1 same in cc in
        stops bytes 1 cause.Header (text, (after, one, e), differ, refl) (λ c. cc)
