-- Worked examples of texts with a fault, for any kind of text.
use Rattle.smx_text.proofs.Common.{◌≢◌, ◌+◌, ◌<◌, refl, sym, subst, ◌∙◌, Version, AllByRecursion, bytes_eq, V1, V2}
use Rattle.smx_text.proofs.Common.{IsFree, LINE_FEED, SPACE, line_of, Cause, TextFault, Grammar, IsBegun, IsFault}
use Rattle.smx_text.proofs.Common.{IsOneLine, ReadsAny, beginning, header, line_text, Refuses}
use Rattle.std.proofs.Common.{◌≡◌, ℕ, Bool, true, false, List, ◌∷◌, ◌++◌, length, Result, Ok, Err}
use Rattle.smx_text.specs.declared.text_fault.Cause.TheVariants as cause
use Rattle.smx_text.specs.Grammar.{Spells}
use Rattle.smx_text.proofs.GrammarLemmas.{one_line, refuses, tells_apart}
use Rattle.smx_text.proofs.LineWordLemmas.{differ, told}
use Rattle.smx_text.proofs.MachineLemmas.{IsAt, Machine, misplaced, too_many}
use Rattle.smx_text.proofs.ReadingLemmas.{any_of, any_of_each, cut_at, refused}
use Rattle.smx_text.proofs.VersionLemmas.{AreVersions, one_reading_of_all}

-- the cause is neither out of memory nor a wrong header
abbrev is_behind : Cause → Bool
is_behind cause.NoMemory = false
is_behind cause.Header = false
is_behind why = true

-- a cause that passes this test is neither out of memory nor a wrong header
not_header : (why : Cause) → is_behind why ≡ true → (why ≢ cause.NoMemory) × (why ≢ cause.Header)
not_header cause.NoMemory h = absurd cc
not_header cause.Header h = absurd cc
not_header why h = ((λ e. cc), (λ e. cc))

module _ {V K : Type 0} {g : Version → Grammar V K} (are : AreVersions g) where
  -- a reader of all versions may return this fault, and the bytes spell no value
  abbrev AreWrong : List ℕ → ℕ → Cause → Type 0
  AreWrong bytes n why = ReadsAny g bytes (Err (record { line = n; cause = why }))
      × ((v : V) → Spells (g (are.version_of v)) bytes v → ⊥)

  -- bytes for which a reader may return a fault other than out of memory spell no value
  wrong : (bytes : List ℕ) (f : TextFault) → f.cause ≢ cause.NoMemory → ReadsAny g bytes (Err f)
      → AreWrong bytes f.line f.cause
  wrong bytes f other reads = (
    reads,
    λ v spells. let bad : ◌≡◌ {A = Result V TextFault} (Ok v) (Err f) =
        one_reading_of_all g are bytes (Ok v) (Err f) (are.version_of v, spells, tt) reads tt other in absurd cc,
  )

  -- bytes with a fault in one version, other than out of memory or the header, spell no value
  pub wrong_text : (version : Version) {bytes : List ℕ} {n : ℕ} {why : Cause} → is_behind why ≡ true
      → IsFault (g version) bytes n why → AreWrong bytes n why
  wrong_text version {bytes} {why = why} h fault = let not = not_header why h in
      wrong bytes _ not.0 (any_of g bytes version (Err _) fault not.1)

  -- a first line that is the header of no version is a fault
  pub wrong_first : (text after : List ℕ) → IsOneLine text → bytes_eq text (header (g V1)) ≡ false
      → bytes_eq text (header (g V2)) ≡ false → AreWrong (text ++ LINE_FEED ∷ after) 1 cause.Header
  wrong_first text after one first second =
      wrong _ (record { line = 1; cause = cause.Header }) (λ e. cc) (any_of_each g _ _ in_each) where
        in_each : (version : Version) → IsFault (g version) (text ++ LINE_FEED ∷ after) 1 cause.Header
        in_each V1 = (text, (after, one, refl), differ text (header (g V1)) first, refl)
        in_each V2 = (text, (after, one, refl), differ text (header (g V2)) second, refl)

  -- bytes that end within the line after a prefix of an allowed value's lines are cut there
  pub cut_text : (version : Version) (ls : List K) (last : List ℕ) → IsBegun (g version) ls → IsOneLine last
      → AreWrong (beginning (g version) ls ++ last) (length ls + 2) cause.Cut
  cut_text version ls last begun one = wrong_text version refl
      (cut_at (g version) _ last ls _ (record { begun = begun; parts = refl; numbered = refl }) one)

  -- a whole line after a prefix of an allowed value's lines that is refused is a fault
  pub wrong_line : (version : Version) (ls : List K) (text after : List ℕ) (why : Cause) → is_behind why ≡ true
      → IsBegun (g version) ls → IsOneLine text → Refuses (g version) ls text why
      → AreWrong (beginning (g version) ls ++ (text ++ LINE_FEED ∷ after)) (length ls + 2) why
  wrong_line version ls text after why h begun one fault =
      wrong_text version h (refused (g version) _ (text ++ LINE_FEED ∷ after) ls (length ls + 2) text after
      (record { begun = begun; parts = refl; numbered = refl }) (one, refl) why fault)

  -- words that are those of no line that fits are a fault
  pub wrong_words : (version : Version) (ls : List K) (ws : List (List ℕ)) (after : List ℕ) → IsBegun (g version) ls
      → AllByRecursion (IsFree SPACE) ws × (0 < length ws) × IsOneLine (line_of ws)
      → ((k : K) → (g version).FitsLine k → ws ≢ (g version).line_words k)
      → AreWrong (beginning (g version) ls ++ (line_of ws ++ LINE_FEED ∷ after)) (length ls + 2) cause.Form
  wrong_words version ls ws after begun (free, some, one) none =
      wrong_line version ls (line_of ws) after cause.Form refl begun one (λ k fits may e.
      none k fits (told ws ((g version).line_words k) (free, some) ((are.made version).are_words k fits) e))

  -- a line of version 2 only is a fault in version 1, if lines of version 1 are also lines of version 2
  pub later_line : ((k : K) → (g V1).FitsLine k → (g V2).FitsLine k × (line_text (g V2) k ≡ line_text (g V1) k))
      → (ls : List K) (k : K) (after : List ℕ) → IsBegun (g V1) ls → (g V2).FitsLine k → ((g V1).FitsLine k → ⊥)
      → AreWrong (beginning (g V1) ls ++ (line_text (g V2) k ++ LINE_FEED ∷ after)) (length ls + 2) cause.Form
  later_line too ls k after begun fits later =
      wrong_line V1 ls (line_text (g V2) k) after cause.Form refl begun (one_line (are.made V2) k fits)
      (λ l first may e. let also = too l first in
      later (subst (g V1).FitsLine (tells_apart (are.made V2) l k also.0 fits (also.1 ∙ sym e)) first))

  module _ (version : Version) {D : Type 0} {m : Machine V K D} {ls : List K} {d : D} (at : IsAt (g version) m ls d)
      (begun : IsBegun (g version) ls) (k : K) (fits : (g version).FitsLine k) (after : List ℕ) where
    -- these lines, this line and more bytes
    abbrev with_this : List ℕ
    with_this = beginning (g version) ls ++ (line_text (g version) k ++ LINE_FEED ∷ after)

    -- a line that may not follow is a fault
    pub misplaced_line : m.takes d k ≡ false → AreWrong with_this (length ls + 2) cause.Form
    misplaced_line never =
        wrong_line version ls _ after cause.Form refl begun (one_line (are.made version) k fits)
        (refuses (are.made version) ls k _ fits refl cause.Form (misplaced at k never))

    -- a line over the limit is a fault
    pub one_too_many : m.takes d k ≡ true → m.is_full d k ≡ true → AreWrong with_this (length ls + 2) cause.Many
    one_too_many may full =
        wrong_line version ls _ after cause.Many refl begun (one_line (are.made version) k fits)
        (refuses (are.made version) ls k _ fits refl cause.Many (too_many at k may full))
