-- Readings of a text of any version, for any kind of text whose versions have different headers.
use Rattle.smx_text.proofs.Common.{◌≢◌, ◌+◌, ◌<◌, refl, sym, ap, subst, ◌∙◌, arith, inl, inr, ◌⊎◌, IfErr, append-nil}
use Rattle.smx_text.proofs.Common.{Version, V1, V2, LINE_FEED, Cause, TextFault, Grammar, IsOneLine, IsBegun, header}
use Rattle.smx_text.proofs.Common.{line_text, beginning, IsFault, Reads, ReadsAny}
use Rattle.std.proofs.Common.{◌≡◌, ℕ, List, [], ◌∷◌, ◌++◌, length, Result, Ok, Err}
use Rattle.std.specs.Prelude.{MatchResult}
use Rattle.smx_text.specs.declared.text_fault.Cause.TheVariants as cause
use Rattle.smx_text.specs.Grammar.{full_text, Reaches, last_line}
use Rattle.smx_text.proofs.GrammarLemmas.{IsWellMade, Answers, Stops, Behind, refused, ended, beginning_and}
use Rattle.smx_text.proofs.GrammarLemmas.{both_behind, line_behind, one_line}
use Rattle.smx_text.proofs.HasReadingLemmas.{HasReading}
use Rattle.smx_text.proofs.LineLemmas.{not_one, one_cut}
use Rattle.smx_text.proofs.ReadingLemmas.{any_of, any_of_each, full_and, one_more}

-- in each version a line's text determines the line, and the versions have different headers
pub record AreVersions {V K : Type 0} (g : Version → Grammar V K) : Type 0 where
  pub version_of : V → Version
  pub made : (version : Version) → IsWellMade (g version)
  pub differ : header (g V1) ≢ header (g V2)

-- a result other than out of memory
abbrev pub HasAnyReading : {V K : Type 0} → (Version → Grammar V K) → List ℕ → Type 0
HasAnyReading {V} g bytes = (r : Result V TextFault) × ReadsAny g bytes r × IfErr r (λ f. f.cause ≢ cause.NoMemory)

-- a cause is out of memory, or another
memory_or_not : (c : Cause) → (c ≡ cause.NoMemory) ⊎ (c ≢ cause.NoMemory)
memory_or_not cause.NoMemory = inl refl
memory_or_not c = inr (λ e. cc)

-- a cause is a wrong header, or another
header_or_not : (c : Cause) → (c ≡ cause.Header) ⊎ (c ≢ cause.Header)
header_or_not cause.Header = inl refl
header_or_not c = inr (λ e. cc)

module _ {V K : Type 0} (g : Version → Grammar V K) (are : AreVersions g) where
  -- two versions with the same header are equal
  same_version : (v w : Version) → header (g v) ≡ header (g w) → v ≡ w
  same_version V1 V1 e = refl
  same_version V1 V2 e = absurd (are.differ e)
  same_version V2 V1 e = absurd (are.differ (sym e))
  same_version V2 V2 e = refl

  -- the first line is whole and is the header of no version, and the result reports that
  abbrev Header : List ℕ → Result V TextFault → Type 0
  Header bytes r = (text after : List ℕ) × IsOneLine text × (bytes ≡ text ++ LINE_FEED ∷ after)
      × ((version : Version) → text ≢ header (g version)) × (r ≡ refused (g V1) 1 cause.Header)

  -- the place of a result: a first line that is not whole, a wrong header, or a line after the header of a version
  abbrev Place : List ℕ → Result V TextFault → Type 0
  Place bytes r = (IsOneLine bytes × (r ≡ refused (g V1) 1 cause.Cut))
      ⊎ (Header bytes r ⊎ ((version : Version) × Behind (g version) bytes r))

  -- ---- each result of a reader, except out of memory, has one of these places

  module _ (version : Version) (bytes : List ℕ) where
    -- a result after a prefix of an allowed value's lines has one of these places
    stands : (lines : List K) (rest : List ℕ) (r : Result V TextFault) → IsBegun (g version) lines
        → bytes ≡ beginning (g version) lines ++ rest → Stops (g version) lines rest r → Place bytes r
    stands lines rest r begun e stops =
        inr (inr (version, (lines, rest, begun, e ∙ beginning_and (g version) lines rest, stops)))

    -- a result at a whole line that is refused has one of these places
    at_line : (lines : List K) (text : List ℕ) (n : ℕ) (c : Cause) → Reaches (g version) bytes lines text n
        → ((after : List ℕ) → Answers (g version) lines text after (refused (g version) (length lines + 2) c))
        → Place bytes (refused (g version) n c)
    at_line lines text n c at answers =
        rw at.numbered (stands lines (text ++ LINE_FEED ∷ at.next.0) _ at.begun at.next.2
        (inr (text, at.next.0, at.next.1, refl, answers at.next.0)))

    -- the result at the last line of an allowed value has one of these places
    at_last : (v : V) (after : List ℕ) → (g version).IsAllowed v → bytes ≡ full_text (g version) v ++ after
        → Place bytes (ended (g version) v after)
    at_last v after allowed e =
        let end = line_text (g version) (g version).end in
        stands ((g version).body v) (end ++ LINE_FEED ∷ after) (ended (g version) v after)
        (v, [], allowed, sym (append-nil ((g version).body v))) (e ∙ full_and (g version) v after)
        (inr (
          end,
          after,
          one_line (are.made version) _ (are.made version).fits_end,
          refl,
          inr (inr (refl, v, allowed, refl, refl)),
        ))

    -- a fault of bytes, except out of memory, is a result in one of these places
    at_fault : (n : ℕ) (c : Cause) → IsFault (g version) bytes n c → c ≢ cause.NoMemory
        → (c ≡ cause.Header → (other : Version) → IsFault (g other) bytes n cause.Header)
        → Place bytes (refused (g version) n c)
    at_fault n cause.Header (text, (after, one, e), differ, at) ample each =
        rw at (inr (inl (text, after, one, e, in_none, refl))) where
          in_none : (other : Version) → text ≢ header (g other)
          in_none other same = let (line, (rest, whole, is), not, _) = each refl other in
              not ((one_cut line text rest after whole one (sym is ∙ e)).0 ∙ same)
    at_fault n cause.Form (lines, text, at, h) ample each =
        at_line lines text n cause.Form at (λ after. inl (h, refl))
    at_fault n cause.Many (lines, text, at, h) ample each =
        at_line lines text n cause.Many at (λ after. inr (inl (h, refl)))
    at_fault n cause.Cut (before, last, inl (none, at), one, e) ample each =
        let all = e ∙ ap (λ (xs : List ℕ). xs ++ last) none in rw at (inl (subst IsOneLine (sym all) one, refl))
    at_fault n cause.Cut (before, last, inr (lines, begun, is, at), one, e) ample each =
        rw at (stands lines last _ begun (e ∙ ap (λ (xs : List ℕ). xs ++ last) is) (inl (one, refl)))
    at_fault n cause.Trailing (v, b, more, allowed, e, at) ample each = rw at (at_last v (b ∷ more) allowed e)
    at_fault n cause.NoMemory h ample each = absurd (ample refl)

  -- a result of a reader, except out of memory, has one of these places
  place : (bytes : List ℕ) (r : Result V TextFault) → ReadsAny g bytes r → IfErr r (λ f. f.cause ≢ cause.NoMemory)
      → Place bytes r
  place bytes (Ok v) (version, spells, _) ample =
      at_last version bytes v [] spells.allowed (spells.text ∙ sym (append-nil (full_text (g version) v)))
  place bytes (Err f) (version, fault, each) ample = at_fault version bytes f.line f.cause fault ample each

  -- ---- bytes have one result

  -- bytes that start with the header of a version have their result after it
  in_version : (version : Version) (bytes rest : List ℕ) (r : Result V TextFault)
      → bytes ≡ header (g version) ++ LINE_FEED ∷ rest → Place bytes r → Behind (g version) bytes r
  in_version version bytes rest r is (inl (one, _)) =
      absurd (not_one (header (g version)) rest (subst IsOneLine is one))
  in_version version bytes rest r is (inr (inl (text, after, one, e, none, _))) =
      absurd (none version
      (one_cut text (header (g version)) after rest one (are.made version).header_line (sym e ∙ is)).0)
  in_version version bytes rest r is (inr (inr (v, (lines, others, begun, e, stops)))) =
      let same = same_version v version (one_cut (header (g v)) (header (g version)) _ rest (are.made v).header_line
      (are.made version).header_line (sym e ∙ is)).0 in
      subst (λ (n : Version). Behind (g n) bytes r) same (lines, others, begun, e, stops)

  -- bytes have at most one result in these places
  one_place : (bytes : List ℕ) (r s : Result V TextFault) → Place bytes r → Place bytes s → r ≡ s
  one_place bytes r s (inl (_, e)) (inl (_, k)) = e ∙ sym k
  one_place bytes r s (inr (inl (_, _, _, _, _, e))) (inr (inl (_, _, _, _, _, k))) = e ∙ sym k
  one_place bytes r s (inl (one, _)) (inr (inl (text, after, _, e, _, _))) =
      absurd (not_one text after (subst IsOneLine e one))
  one_place bytes r s (inr (inl (text, after, _, e, _, _))) (inl (one, _)) =
      absurd (not_one text after (subst IsOneLine e one))
  one_place bytes r s (inr (inr (version, (lines, rest, begun, is, stops)))) there =
      both_behind (are.made version) bytes r s (lines, rest, begun, is, stops) (in_version version bytes _ s is there)
  one_place bytes r s here (inr (inr (version, (lines, rest, begun, is, stops)))) =
      both_behind (are.made version) bytes r s (in_version version bytes _ r is here) (lines, rest, begun, is, stops)

  -- ---- the laws

  -- bytes have at most one result in all versions other than out of memory
  pub one_reading_of_all : (bytes : List ℕ) (r s : Result V TextFault) → ReadsAny g bytes r → ReadsAny g bytes s
      → IfErr r (λ f. f.cause ≢ cause.NoMemory) → IfErr s (λ f. f.cause ≢ cause.NoMemory) → r ≡ s
  one_reading_of_all bytes r s reads again ample plenty =
      one_place bytes r s (place bytes r reads ample) (place bytes s again plenty)

  -- a reader of all versions may read the text of an allowed value as that value
  spelled : (version : Version) (v : V) → (g version).IsAllowed v → ReadsAny g (full_text (g version) v) (Ok v)
  spelled version v allowed = (version, record { allowed = allowed; text = refl }, tt)

  -- the text of an allowed value in its version is read as that value, unless memory runs out
  pub written_is_read : (version : Version) (v : V) (r : Result V TextFault) → (g version).IsAllowed v
      → ReadsAny g (full_text (g version) v) r → MatchResult r (λ w. w ≡ v) (λ f. f.cause ≡ cause.NoMemory)
  written_is_read version v (Ok w) allowed reads =
      let same : ◌≡◌ {A = Result V TextFault} (Ok w) (Ok v) =
      one_reading_of_all (full_text (g version) v) (Ok w) (Ok v) reads (spelled version v allowed) tt tt in cc
  written_is_read version v (Err f) allowed reads = elim (memory_or_not f.cause) [
    | inl is ↦ is
    | inr other ↦ let bad : ◌≡◌ {A = Result V TextFault} (Err f) (Ok v) =
        one_reading_of_all (full_text (g version) v) (Err f) (Ok v) reads (spelled version v allowed) other tt in
        absurd cc
  ]

  -- a reader reports out of memory only before the line where any other reading ends
  pub comes_before_all : (version : Version) (bytes : List ℕ) (n : ℕ) (r : Result V TextFault)
      → IsFault (g version) bytes n cause.NoMemory → ReadsAny g bytes r
      → IfErr r (λ f. f.cause ≢ cause.NoMemory) → n < last_line (g version) r
  comes_before_all version bytes n r (lines, text, at, (k, is, begun)) reads ample =
      let next =
      one_more (g version) bytes (text ++ LINE_FEED ∷ at.next.0) lines n text at.next.0
      (record { begun = at.begun; parts = at.next.2; numbered = at.numbered }) (at.next.1, refl) (lines ++ k ∷ [])
      (k, is, refl, begun) in
      let here = next.parts ∙ beginning_and (g version) (lines ++ k ∷ []) at.next.0 in
      let last =
      line_behind (are.made version) bytes (lines ++ k ∷ []) at.next.0 r begun here
      (in_version version bytes _ r here (place bytes r reads ample)) in
      omega (arith, last, next.numbered)

  -- a text that has a reading in each version has one for a reader of all versions
  pub has_reading_of_all : (bytes : List ℕ) → ((version : Version) → HasReading (g version) bytes)
      → HasAnyReading g bytes
  has_reading_of_all bytes each =
      let one = each V1 in
      let two = each V2 in
      elim (wrong_or_not one.0) [
        | inr other ↦ (one.0, any_of g bytes V1 one.0 one.1 other, one.2)
        | inl (n, is) ↦ elim (wrong_or_not two.0) [
          | inr other ↦ (two.0, any_of g bytes V2 two.0 two.1 other, two.2)
          | inl (m, also) ↦
              in_neither n m (subst (Reads (g V1) bytes) is one.1) (subst (Reads (g V2) bytes) also two.1)
        ]
      ] where
        wrong_or_not : (r : Result V TextFault) → ((n : ℕ) × (r ≡ refused (g V1) n cause.Header))
            ⊎ IfErr r (λ f. f.cause ≢ cause.Header)
        wrong_or_not (Ok v) = inr tt
        wrong_or_not (Err f) = elim (header_or_not f.cause) [
          | inl is ↦ inl (f.line, ap (refused (g V1) f.line) is)
          | inr other ↦ inr other
        ]

        in_neither : (n m : ℕ) → IsFault (g V1) bytes n cause.Header → IsFault (g V2) bytes m cause.Header
            → HasAnyReading g bytes
        in_neither n m (text, next, differ, at) second =
            (refused (g V2) m cause.Header, any_of_each g bytes _ in_each, λ e. cc) where
              in_each : (version : Version) → IsFault (g version) bytes m cause.Header
              in_each V1 = (text, next, differ, second.3)
              in_each V2 = second
