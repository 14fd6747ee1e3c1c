-- The explanation of a transcript, and what it is for each verdict.
use Rattle.smx_explain.proofs.Common.{◌≡◌, ◌≢◌, ℕ, ◌+◌, ◌<◌, Some, List, [], ◌∷◌, ◌++◌, length, map, take, refl, sym}
use Rattle.smx_explain.proofs.Common.{ap, subst, ◌∙◌, append_assoc, arith, inl, inr, rules, AllByRecursion, Entry}
use Rattle.smx_explain.proofs.Common.{DriverSpec, Version, V1, V2, LINE_FEED, lines_text, IsOneLine, AreAlike}
use Rattle.smx_explain.proofs.Common.{IsFirstDifference}
use Rattle.std.proofs.Common.{zero, suc, Result, Ok, Err}
use Rattle.std.specs.Prelude.{IfErr, slice_get}
use Rattle.std.proofs.lemmas.List.{append-nil, length-append, length-map, map-append}
use Rattle.smx_types.specs.declared.transcript.Transcript.{Transcript}
use Rattle.smx_words.specs.Spellable.{FitsDriver, FitsEntry}
use Rattle.smx_words.specs.Spelling.{driver_words, entry_words}
use Rattle.smx_words.specs.Words.{AreWords, line_of}
use Rattle.smx_text.specs.Grammar.{ReadsAny}
use Rattle.smx_text.specs.TranscriptLines.{TranscriptLine}
use Rattle.smx_text.specs.TranscriptLines as line
use Rattle.smx_text.specs.TranscriptText.{IsAllowed, IsSpellable, SpellsTranscript, body, transcript_grammar}
use Rattle.smx_text.specs.TranscriptText.{transcript_text, view_body}
use Rattle.smx_text.specs.declared.text_fault.Cause.TheVariants.{NoMemory, Trailing}
use Rattle.smx_text.specs.declared.text_fault.TextFault.{TextFault}
use Rattle.smx_text.proofs.EachLemmas.{all_append, all_left, all_right}
use Rattle.smx_text.proofs.LineWordLemmas.{one_line_of}
use Rattle.smx_text.proofs.TranscriptWholeLemmas.{allowed_spellable}
use Rattle.smx_model.specs.DriverList.{IsDriverList}
use Rattle.smx_model.specs.Configuration.{empty}
use Rattle.smx_model.specs.Histories.{after, call_of, IsLegal}
use Rattle.smx_model.specs.IllegalEntries.{IsFirstIllegal}
use Rattle.smx_model.specs.Views.{view}
use Rattle.smx_config.specs.Verdicts.{IsVerdict}
use Rattle.smx_config.specs.declared.verdict.Verdict.TheVariants.{ConfigDiffers, Legal}
use Rattle.smx_trace.specs.Answers.{answered}
use Rattle.smx_trace.specs.Replays.{IsReplayOf, IsReplayText}
use Rattle.smx_explain.specs.Explanations.{IsExplanation, difference_text}
use Rattle.smx_explain.proofs.HistoryLemmas.{stands_in}
use Rattle.smx_explain.proofs.LineLemmas.{no_difference, no_rest, one_difference, past_front}
use Rattle.smx_explain.proofs.TextLemmas.{are_lines, lines_before, text_at, text_behind, text_ends}

-- ---- what the laws of other crates say

-- a transcript text has one reading, apart from out-of-memory
abbrev HasOneReading : Type 0
HasOneReading = (bytes : List ℕ) (r s : Result Transcript TextFault) → ReadsAny transcript_grammar bytes r
    → ReadsAny transcript_grammar bytes s
    → IfErr r (λ f. f.cause ≢ NoMemory) → IfErr s (λ f. f.cause ≢ NoMemory) → r ≡ s

-- a replay of an allowed transcript is allowed, if it can be spelled
abbrev CanBeExpressed : Type 0
CanBeExpressed = (t r : Transcript) → IsAllowed t.version t → IsReplayOf t r → IsSpellable r → IsAllowed r.version r

-- a transcript has at most one replay
abbrev HasOneReplay : Type 0
HasOneReplay = (t r s : Transcript) → IsReplayOf t r → IsReplayOf t s → r ≡ s

-- a transcript whose verdict is legal is its own replay
abbrev IsItsOwn : Type 0
IsItsOwn = (t : Transcript) → IsDriverList t.drivers → IsVerdict t.drivers t.entries t.view Legal → IsReplayOf t t

-- the verdict on a replay is legal
abbrev IsJudgedLegal : Type 0
IsJudgedLegal = (t r : Transcript) → IsReplayOf t r → IsVerdict r.drivers r.entries r.view Legal

-- two legal histories of the same calls are the same
abbrev AreDetermined : Type 0
AreDetermined = (drivers : List DriverSpec) (one other : List Entry) → IsLegal drivers one → IsLegal drivers other
    → map call_of one ≡ map call_of other → one ≡ other

-- a driver that can be spelled is spelled by words
abbrev DriversAreWords : Type 0
DriversAreWords = (d : DriverSpec) → FitsDriver d → AreWords (driver_words d)

-- an entry that can be spelled is spelled by words
abbrev EntriesAreWords : Type 0
EntriesAreWords = (e : Entry) → FitsEntry e → AreWords (entry_words e)

-- no two entries have the same line
abbrev EntriesAreReported : Type 0
EntriesAreReported =
    (d e : Entry) → FitsEntry d → FitsEntry e → line_of (entry_words d) ≡ line_of (entry_words e) → d ≡ e

-- ---- neither text goes on where the other ends

module _ (reading : HasOneReading) (t r : Transcript) (allowed : IsAllowed t.version t)
    (also : IsAllowed r.version r) where
  -- transcripts that have the same text are the same
  same_text : transcript_text r ≡ transcript_text t → r ≡ t
  same_text e =
      let one : Result Transcript TextFault = Ok r in
      let other : Result Transcript TextFault = Ok t in
      let same : one ≡ other = reading (transcript_text r) one other
      (r.version, record { allowed = also; text = refl }, tt)
      (t.version, record { allowed = allowed; text = e }, tt) tt tt in
      cc

  -- one text does not go on after the end of the other
  no_longer : (b : ℕ) (more : List ℕ) → transcript_text r ≡ transcript_text t ++ b ∷ more → ⊥
  no_longer b more e =
      let fault : TextFault = record { line = length (body t) + 3; cause = Trailing } in
      let one : Result Transcript TextFault = Ok r in
      let other : Result Transcript TextFault = Err fault in
      let same : one ≡ other = reading (transcript_text r) one other
      (r.version, record { allowed = also; text = refl }, tt)
      (t.version, (t, b, more, allowed, e, refl), λ is. absurd (cc is)) tt (λ is. cc) in
      absurd cc

  -- if one of two texts has no whole line after lines that both have, the transcripts are the same
  end_alike : (lines : List (List ℕ)) (rest behind : List ℕ) → transcript_text t ≡ lines_text lines ++ rest
      → transcript_text r ≡ lines_text lines ++ behind → IsOneLine rest → r ≡ t
  end_alike lines rest behind is is_too one =
      let end = text_ends (transcript_grammar t.version) t in
      let none : rest ≡ [] = no_rest (lines_text lines) end.0 rest (sym is ∙ end.1) one in
      let whole : transcript_text t ≡ lines_text lines = is ∙ ap (λ (xs : List ℕ). lines_text lines ++ xs) none
      ∙ append-nil (lines_text lines) in
      by_rest behind whole is_too where
        by_rest : (behind : List ℕ) → transcript_text t ≡ lines_text lines
            → transcript_text r ≡ lines_text lines ++ behind → r ≡ t
        by_rest [] whole is_too = same_text (is_too ∙ append-nil (lines_text lines) ∙ sym whole)
        by_rest (b ∷ more) whole is_too =
            absurd (no_longer b more (is_too ∙ ap (λ (xs : List ℕ). xs ++ b ∷ more) (sym whole)))

-- texts in which no line differs are of one transcript
alike_same : HasOneReading → (t r : Transcript) → IsAllowed t.version t → IsAllowed r.version r
    → AreAlike (transcript_text t) (transcript_text r) → r ≡ t
alike_same reading t r allowed also h =
    elim h.ends [
      | inl one ↦ end_alike reading t r allowed also h.lines h.rest h.behind h.begin.one_is h.begin.other_is one
      | inr one ↦ sym (end_alike reading r t also allowed h.lines h.behind h.rest h.begin.other_is h.begin.one_is one)
    ]

-- ---- explanations

module _ (t : Transcript) (text replayed : List ℕ) (spells : SpellsTranscript text t)
    (h : IsReplayText t replayed) where
  -- if no line differs, the explanation is empty
  pub reports_nothing : HasOneReading → CanBeExpressed → (output : List ℕ) → AreAlike text replayed → output ≡ []
      → IsExplanation t output
  reports_nothing reading can output alike none =
      let also = can t h.replay spells.allowed h.replays h.spellable in
      let both = subst (λ (one : List ℕ). AreAlike one (transcript_text h.replay)) spells.text
      (subst (λ (other : List ℕ). AreAlike text other) h.written alike) in
      record {
        replay = h.replay;
        replays = h.replays;
        spellable = h.spellable;
        shown = inl (alike_same reading t h.replay spells.allowed also both, none);
      }

-- ---- the explanation below each verdict

-- the text of a difference is not empty
some_reported : (number : ℕ) (told has : List ℕ) → difference_text number told has ≡ [] → ⊥
some_reported number told has e = absurd (cc e)

-- below the verdict `legal` the explanation is empty
pub legal_reported : HasOneReplay → IsItsOwn → (t : Transcript) (output : List ℕ) → IsExplanation t output
    → IsVerdict t.drivers t.entries t.view Legal → output ≡ []
legal_reported one own t output h verdict =
    elim h.shown [
      | inl same ↦ same.1
      | inr (number, told, has, first, is) ↦
          let same : t ≡ h.replay = one t t h.replay (own t h.replays.valid_drivers verdict) h.replays in
          absurd (no_difference (transcript_text t) (transcript_text h.replay) number told has first
          (ap transcript_text same))
    ]

-- if the explanation is empty, the verdict is legal
pub nothing_reported : IsJudgedLegal → (t : Transcript) (output : List ℕ) → IsExplanation t output → output ≡ []
    → IsVerdict t.drivers t.entries t.view Legal
nothing_reported judged t output h none =
    elim h.shown [
      | inl same ↦ subst (λ (r : Transcript). IsVerdict r.drivers r.entries r.view Legal) same.0
          (judged t h.replay h.replays)
      | inr (number, told, has, first, is) ↦ absurd (some_reported number told has (sym is ∙ none))
    ]

-- a legal transcript has an empty explanation, without a replay of it
pub legal_unexplained : (t : Transcript) → IsAllowed t.version t → IsDriverList t.drivers
    → IsVerdict t.drivers t.entries t.view Legal → IsExplanation t []
legal_unexplained t allowed valid verdict = record {
  replay = t;
  replays =
      record {
        version = refl;
        drivers = refl;
        valid_drivers = valid;
        calls = refl;
        legal = verdict.0;
        shown = verdict.1;
      };
  spellable = (allowed_spellable t.version t allowed).0;
  shown = inl (refl, refl);
}

-- the header of a transcript is one line
header_line : (version : Version) → IsOneLine (line_of (transcript_grammar version).header_words)
header_line V1 = search rules
header_line V2 = search rules

-- the text of this line of a transcript is one line
abbrev IsLine : TranscriptLine → Type 0
IsLine k = IsOneLine (line_of ((transcript_grammar V2).line_words k))

-- the text of each driver that can be spelled is one line
driver_lines : DriversAreWords → (ds : List DriverSpec) → AllByRecursion FitsDriver ds
    → AllByRecursion IsLine (map line.Driver ds)
driver_lines words [] all = tt
driver_lines words (d ∷ ds) all = (one_line_of (driver_words d) (words d all.0), driver_lines words ds all.1)

-- the text of each entry that can be spelled is one line
entry_lines : EntriesAreWords → (es : List Entry) → AllByRecursion FitsEntry es
    → AllByRecursion IsLine (map line.Entry es)
entry_lines words [] all = tt
entry_lines words (e ∷ es) all = (one_line_of (entry_words e) (words e all.0), entry_lines words es all.1)

-- the lines before an entry: those of the drivers, and those of the entries before it
abbrev lines_to : List DriverSpec → List Entry → List TranscriptLine
lines_to drivers front = map line.Driver drivers ++ map line.Entry front

-- the lines of a transcript are those before an entry, its own, and those after it
body_at : (t : Transcript) (front : List Entry) (e : Entry) (more : List Entry) → t.entries ≡ front ++ e ∷ more
    → body t ≡ lines_to t.drivers front ++ line.Entry e ∷ (map line.Entry more ++ line.Config ∷ view_body t.view)
body_at t front e more is =
    let rest = line.Config ∷ view_body t.view in
    ap (λ (es : List Entry). map line.Driver t.drivers ++ (map line.Entry es ++ rest)) is
    ∙ ap (λ (ks : List TranscriptLine). map line.Driver t.drivers ++ (ks ++ rest))
    (map-append line.Entry front (e ∷ more)) ∙ ap (λ (ks : List TranscriptLine). map line.Driver t.drivers ++ ks)
    (append_assoc (map line.Entry front) (line.Entry e ∷ map line.Entry more) rest)
    ∙ sym (append_assoc (map line.Driver t.drivers) (map line.Entry front) (line.Entry e ∷ map line.Entry more ++ rest))

-- with the header, the lines before an entry are one more than the drivers and the entries before it
count_to : (version : Version) (drivers : List DriverSpec) (front : List Entry)
    → length (lines_before (transcript_grammar version) (lines_to drivers front)) ≡ length drivers + length front + 1
count_to version drivers front =
    let words = (transcript_grammar version).header_words
    ∷ map (transcript_grammar version).line_words (lines_to drivers front) in
    omega (
      arith,
      length-map words line_of,
      length-map (lines_to drivers front) (transcript_grammar version).line_words,
      length-append (map line.Driver drivers) (map line.Entry front),
      length-map drivers line.Driver,
      length-map front line.Entry,
    )

-- the header, and the text of each line before an entry, is one line
lines_are : DriversAreWords → EntriesAreWords → (version : Version) (drivers : List DriverSpec) (front : List Entry)
    → AllByRecursion FitsDriver drivers → AllByRecursion FitsEntry front
    → AllByRecursion IsOneLine (lines_before (transcript_grammar version) (lines_to drivers front))
lines_are driver entry version drivers front fit fit_too =
    are_lines (transcript_grammar version) (header_line version) (lines_to drivers front)
    (all_append IsLine (map line.Driver drivers) (map line.Entry front) (driver_lines driver drivers fit)
    (entry_lines entry front fit_too))

-- ---- below `illegal`

-- the number of entries before an entry is its index
front_long : (es : List Entry) (b : ℕ) (e : Entry) → slice_get es b ≡ Some e → length (take b es) ≡ b
front_long [] b e here = absurd (cc here)
front_long (x ∷ es) zero e here = refl
front_long (x ∷ es) (suc b) e here = let more = front_long es b e here in omega (arith, more)

module _ (driver : DriversAreWords) (entry : EntriesAreWords) (t : Transcript) (allowed : IsAllowed t.version t)
    (output : List ℕ) (h : IsExplanation t output) where
  -- the text and that of the replay first differ in the line of the first illegal entry
  entry_differs : EntriesAreReported → (number : ℕ) (first : IsFirstIllegal t.drivers t.entries number)
      → IsFirstDifference (transcript_text t) (transcript_text h.replay) (length t.drivers + number + 1)
      (line_of (entry_words first.entry))
      (line_of (entry_words (answered t.drivers (after t.drivers (take first.before t.entries)) first.entry)))
  entry_differs apart number first =
      let front = take first.before t.entries in
      let there = answered t.drivers (after t.drivers front) first.entry in
      let s = stands_in t.drivers empty t.entries h.replay.entries first.before first.entry h.replays.legal
      h.replays.calls first.legal_before first.here in
      let own = (allowed_spellable t.version t allowed).0 in
      let fit = subst (λ (es : List Entry). AllByRecursion FitsEntry es) s.it own.entries in
      let fit_too = subst (λ (es : List Entry). AllByRecursion FitsEntry es) s.its_replay h.spellable.entries in
      let fits = (all_right FitsEntry front (first.entry ∷ s.more) fit).0 in
      let fits_too = (all_right FitsEntry front (there ∷ s.more_too) fit_too).0 in
      let at = text_at (transcript_grammar t.version) t (lines_to t.drivers front) (line.Entry first.entry) _
      (body_at t front first.entry s.more s.it) in
      let at_too = text_at (transcript_grammar h.replay.version) h.replay (lines_to h.replay.drivers front)
      (line.Entry there) _ (body_at h.replay front there s.more_too s.its_replay) in
      let tail = line_of (entry_words there) ++ LINE_FEED ∷ at_too.0 in
      let as_version = subst (λ (v : Version). transcript_text h.replay
      ≡ lines_text (lines_before (transcript_grammar v) (lines_to h.replay.drivers front)) ++ tail)
      h.replays.version at_too.1 in
      let as_it = subst (λ (ds : List DriverSpec). transcript_text h.replay
      ≡ lines_text (lines_before (transcript_grammar t.version) (lines_to ds front)) ++ tail)
      h.replays.drivers as_version in
      record {
        before = lines_before (transcript_grammar t.version) (lines_to t.drivers front);
        counted = omega (
          arith,
          first.counted,
          count_to t.version t.drivers front,
          front_long t.entries first.before first.entry first.here,
        );
        told_is_one = one_line_of (entry_words first.entry) (entry first.entry fits);
        has_is_one = one_line_of (entry_words there) (entry there fits_too);
        more = at.0;
        rest = at_too.0;
        begin = record {
          are_lines = lines_are driver entry t.version t.drivers front own.drivers
              (all_left FitsEntry front (first.entry ∷ s.more) fit);
          one_is = at.1;
          other_is = as_it;
        };
        differ = λ same. first.other_reply
            (sym (ap (λ (e : Entry). e.reply) (apart first.entry there fits fits_too same)));
      }

  -- below `illegal`, the explanation shows the line of the first illegal entry and that of its replay
  pub illegal_reported : EntriesAreReported → (number : ℕ) (first : IsFirstIllegal t.drivers t.entries number)
      → output ≡ difference_text (length t.drivers + number + 1) (line_of (entry_words first.entry))
      (line_of (entry_words (answered t.drivers (after t.drivers (take first.before t.entries)) first.entry)))
  illegal_reported apart number first =
      let there = entry_differs apart number first in
      elim h.shown [
        | inl same ↦ absurd (no_difference _ _ _ _ _ there (ap transcript_text (sym same.0)))
        | inr (n, told, has, other, is) ↦
            let one = one_difference (transcript_text t) (transcript_text h.replay) n _ told has _ _ other there in
            is ∙ ap (λ (m : ℕ). difference_text m told has) one.0
            ∙ ap (λ (line : List ℕ). difference_text (length t.drivers + number + 1) line has) one.1
            ∙ ap (λ (line : List ℕ). difference_text (length t.drivers + number + 1)
            (line_of (entry_words first.entry)) line) one.2
      ]

  -- ---- below `config differs`

  -- all lines above the configuration
  abbrev lines_above : List DriverSpec → List Entry → List TranscriptLine
  lines_above drivers entries = lines_to drivers entries ++ line.Config ∷ []

  -- the lines of a transcript are all lines above the configuration, then those of its view
  body_behind : (u : Transcript) → body u ≡ lines_above u.drivers u.entries ++ view_body u.view
  body_behind u =
      sym (append_assoc (map line.Driver u.drivers) (map line.Entry u.entries) (line.Config ∷ view_body u.view))
      ∙ sym (append_assoc (lines_to u.drivers u.entries) (line.Config ∷ []) (view_body u.view))

  -- with the header, the lines above the configuration are two more than the drivers and the entries
  count_above : length (lines_before (transcript_grammar t.version) (lines_above t.drivers t.entries))
      ≡ length t.drivers + length t.entries + 2
  count_above =
      let words = (transcript_grammar t.version).header_words
      ∷ map (transcript_grammar t.version).line_words (lines_above t.drivers t.entries) in
      omega (
        arith,
        length-map words line_of,
        length-map (lines_above t.drivers t.entries) (transcript_grammar t.version).line_words,
        length-append (lines_to t.drivers t.entries) (line.Config ∷ []),
        length-append (map line.Driver t.drivers) (map line.Entry t.entries),
        length-map t.drivers line.Driver,
        length-map t.entries line.Entry,
      )

  -- the line `config` is one line
  config_line : IsLine line.Config
  config_line = search rules

  -- the header, and the text of each line above the configuration, is one line
  above_are : AllByRecursion IsOneLine (lines_before (transcript_grammar t.version) (lines_above t.drivers t.entries))
  above_are = are_lines (transcript_grammar t.version) (header_line t.version) (lines_above t.drivers t.entries)
      (all_append IsLine (lines_to t.drivers t.entries) (line.Config ∷ [])
      (all_append IsLine (map line.Driver t.drivers) (map line.Entry t.entries)
      (driver_lines driver t.drivers (allowed_spellable t.version t allowed).0.drivers)
      (entry_lines entry t.entries (allowed_spellable t.version t allowed).0.entries)) (config_line, tt))

  -- below `config differs`, the explanation shows a line below the line `config`
  pub differs_reported : AreDetermined → IsVerdict t.drivers t.entries t.view ConfigDiffers
      → (number : ℕ) × (told has : List ℕ) × (output ≡ difference_text number told has)
      × (length t.drivers + length t.entries + 2 < number)
  differs_reported determined verdict =
      let r = h.replay in
      let entries : r.entries ≡ t.entries = determined t.drivers r.entries t.entries h.replays.legal verdict.0
      h.replays.calls in
      let at = text_behind (transcript_grammar t.version) t (lines_above t.drivers t.entries) (view_body t.view)
      (body_behind t) in
      let at_too = text_behind (transcript_grammar r.version) r (lines_above r.drivers r.entries) (view_body r.view)
      (body_behind r) in
      let as_version = subst (λ (v : Version). transcript_text r
      ≡ lines_text (lines_before (transcript_grammar v) (lines_above r.drivers r.entries)) ++ at_too.0)
      h.replays.version at_too.1 in
      let as_drivers = subst (λ (ds : List DriverSpec). transcript_text r
      ≡ lines_text (lines_before (transcript_grammar t.version) (lines_above ds r.entries)) ++ at_too.0)
      h.replays.drivers as_version in
      let as_it = subst (λ (es : List Entry). transcript_text r
      ≡ lines_text (lines_before (transcript_grammar t.version) (lines_above t.drivers es)) ++ at_too.0)
      entries as_drivers in
      elim h.shown [
        | inl same ↦
            let shown = subst (λ (u : Transcript). u.view ≡ view t.drivers (after t.drivers u.entries)) same.0
            h.replays.shown in
            absurd (verdict.1 shown)
        | inr (number, told, has, first, is) ↦
            let past = past_front (lines_before (transcript_grammar t.version) (lines_above t.drivers t.entries))
            first.before told has first.more first.rest at.0 at_too.0
            above_are first.begin.are_lines first.told_is_one first.has_is_one first.differ
            (sym first.begin.one_is ∙ at.1) (sym first.begin.other_is ∙ as_it) in
            (number, told, has, is, omega (arith, past, count_above, first.counted))
      ]
