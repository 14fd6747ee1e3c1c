-- In a transcript text, a line's text determines the line.
use Rattle.smx_text.proofs.Common.{◌∙◌, ◌≢◌, refl, sym, ap, arith, rules, inl, inr, IfErr, Entry, DriverSpec, Version}
use Rattle.smx_text.proofs.Common.{V1, V2, HungLine, line_of, AreWords, driver_words, entry_words, next_words}
use Rattle.smx_text.proofs.Common.{FitsDriver, FitsEntry, IsNoLine, IsOneLine, header, line_text, IsBegun}
use Rattle.smx_text.proofs.Common.{TranscriptLine, transcript_grammar, grammar_of, lines, Cause, TranscriptDraft}
use Rattle.smx_text.proofs.Common.{ConfigView, is_of_hangup}
use Rattle.std.proofs.Common.{true, false, ◌≡◌, ℕ, List}
use Rattle.std.specs.Prelude.{codes, Result, Ok, Err, OnOk, if◌then◌else◌, Bool, ◌++◌, ◌∷◌, []}
use Rattle.std.specs.Str.{all_ascii_digits}
use Rattle.std.proofs.lemmas.Fmt.{digits_decimal}
use Rattle.smx_types.specs.declared.view.BindingLine.{BindingLine}
use Rattle.smx_types.specs.declared.view.DescriptorLine.{DescriptorLine}
use Rattle.smx_types.specs.declared.view.FullLine.{FullLine}
use Rattle.smx_types.specs.declared.view.LinkLine.{LinkLine}
use Rattle.smx_types.specs.declared.view.MessageLine.{MessageLine}
use Rattle.smx_types.specs.declared.view.RouteLine.{RouteLine}
use Rattle.smx_words.specs.Spelling.{descriptor_words, link_words, bind_words, route_words, message_words, full_words}
use Rattle.smx_words.specs.Spelling.{hung_words}
use Rattle.smx_words.specs.Spellable.{FitsEntryIn, FitsDescriptor, FitsLink, FitsBinding, FitsRoute, FitsMessage}
use Rattle.smx_words.specs.Spellable.{FitsFull, FitsNext}
use Rattle.smx_text.specs.TranscriptLines as line
use Rattle.smx_text.specs.TranscriptText.{line_words, FitsHungIn, FitsLine}
use Rattle.smx_text.proofs.GrammarLemmas.{IsWellMade, answers}
use Rattle.smx_text.proofs.HasReadingLemmas.{HasReading, by_reading}
use Rattle.smx_text.proofs.MachineLemmas.{IsLineOrNot, adds, longer_begun, misplaced, reads, well_made as made_by}
use Rattle.smx_text.proofs.TranscriptMachineLemmas.{reader, stands}
use Rattle.smx_text.proofs.TranscriptDrafts.{new_view, is_full, takes, with_line, with_view}
use Rattle.smx_text.specs.Reading.{AnswersLine, AnswersText}
use Rattle.smx_text.specs.declared.text_fault.Cause.TheVariants as cause
use Rattle.smx_text.proofs.VersionLemmas.{AreVersions}
use Rattle.smx_text.proofs.LineWordLemmas.{config_spelled, differ, end_spelled, first_word, other_first}
use Rattle.smx_words.proofs.NumberLemmas.{own}
use Rattle.smx_words.proofs.DecidedCommandLemmas.{entry_has_words}
use Rattle.smx_words.proofs.DecidedLemmas.{one, reading, same_or_not}
use Rattle.smx_words.proofs.DecidedLineLemmas.{bind_has_words, descriptor_has_words, driver_has_words, full_has_words}
use Rattle.smx_words.proofs.DecidedLineLemmas.{hung_has_words, link_has_words, message_has_words, next_has_words}
use Rattle.smx_words.proofs.DecidedLineLemmas.{route_has_words}
use Rattle.smx_words.proofs.InVersionLemmas.{reading_in}

-- ---- lines

-- a line that fits has at least one word, and all words are printable bytes
pub spelling : (version : Version) (k : TranscriptLine) → FitsLine version k → AreWords (line_words k)
spelling version (line.Driver d) fits = (driver_has_words.are_words d fits, omega arith)
spelling version (line.Entry e) fits = (entry_has_words.are_words e fits.0, omega arith)
spelling version line.Config fits = config_spelled
spelling version (line.Next id serial) fits = (next_has_words.are_words (id, serial) fits, omega arith)
spelling version (line.Fd d) fits = (descriptor_has_words.are_words d fits, omega arith)
spelling version (line.Link l) fits = (link_has_words.are_words l fits, omega arith)
spelling version (line.Bind b) fits = (bind_has_words.are_words b fits, omega arith)
spelling version (line.Route r) fits = (route_has_words.are_words r fits, omega arith)
spelling version (line.Msg m) fits = (message_has_words.are_words m fits, omega arith)
spelling version (line.Full f) fits = (full_has_words.are_words f fits, omega arith)
spelling version (line.Hung h) fits = (hung_has_words.are_words h fits.0, omega arith)
spelling version line.End fits = end_spelled

-- words that do not begin with digits are not those of an entry
not_entry : (e : Entry) → FitsEntry e → (ws : List (List ℕ)) → entry_words e ≡ ws
    → all_ascii_digits (first_word ws) ≡ false → ⊥
not_entry e fits ws is h = grind (arith, digits_decimal, own, first_word)

-- two lines of a transcript that fit a version and have the same words are equal
words_apart : (version : Version) (k l : TranscriptLine) → FitsLine version k → FitsLine version l
    → line_words k ≡ line_words l → k ≡ l
words_apart version (line.Driver d) (line.Driver e) fits also ws = grind (arith, one, driver_has_words)
words_apart version (line.Entry d) (line.Entry e) fits also ws = grind (arith, one, entry_has_words)
words_apart version line.Config line.Config fits also ws = refl
words_apart version (line.Next id serial) (line.Next jd terial) fits also ws =
    ap (λ (p : ℕ × ℕ). line.Next p.0 p.1) (one next_has_words (id, serial) (jd, terial) fits also ws)
words_apart version (line.Fd d) (line.Fd e) fits also ws = ap line.Fd (one descriptor_has_words d e fits also ws)
words_apart version (line.Link d) (line.Link e) fits also ws = ap line.Link (one link_has_words d e fits also ws)
words_apart version (line.Bind d) (line.Bind e) fits also ws = ap line.Bind (one bind_has_words d e fits also ws)
words_apart version (line.Route d) (line.Route e) fits also ws = ap line.Route (one route_has_words d e fits also ws)
words_apart version (line.Msg d) (line.Msg e) fits also ws = ap line.Msg (one message_has_words d e fits also ws)
words_apart version (line.Full d) (line.Full e) fits also ws = ap line.Full (one full_has_words d e fits also ws)
words_apart version (line.Hung d) (line.Hung e) fits also ws = ap line.Hung (one hung_has_words d e fits.0 also.0 ws)
words_apart version line.End line.End fits also ws = refl
words_apart version (line.Entry e) l fits also ws = absurd (not_entry e fits.0 _ ws refl)
words_apart version k (line.Entry e) fits also ws = absurd (not_entry e also.0 _ (sym ws) refl)
words_apart version k l fits also ws = absurd (other_first _ _ refl ws)

-- ---- the whole text

-- the header of a transcript contains no line feed
header_is_line : (version : Version) → IsOneLine (header (transcript_grammar version))
header_is_line V1 = search rules
header_is_line V2 = search rules

-- the transcript text is well made: a line's text determines it, each is one line, and lines determine the transcript
pub well_made : (version : Version) → IsWellMade (transcript_grammar version)
well_made version =
    made_by (reader version (new_view 0 0)) (header_is_line version) (spelling version) tt (words_apart version)

-- the grammars of transcripts are well made in both versions, and their headers differ
abbrev pub versions : AreVersions transcript_grammar
versions = record {
  version_of = λ t. t.version;
  made = well_made;
  differ = differ (codes "transcript 1") (codes "transcript 2") refl;
}

-- the result for the text of a line of a group, which has no limit: it is appended to its group, if it may follow
pub group_answers : {A X : Type 0} (d : TranscriptDraft) (k : TranscriptLine) (text : List ℕ)
    → IsBegun (grammar_of d) (lines d) → is_full d k ≡ false → k ≢ line.End → (put : List X → ConfigView)
    (old new : List X) (x : X) (may : Bool) → may ≡ takes d k → with_line d k ≡ with_view d (put (old ++ x ∷ []))
    → FitsLine d.transcript.version k × (text ≡ line_text (grammar_of d) k) → (r : Result A Cause)
    → OnOk r ((may ≡ true) × (new ≡ old ++ x ∷ []))
    → IfErr r (λ why. why ≡ (if may then cause.NoMemory else cause.Form))
    → AnswersText (grammar_of d) (lines d) text (lines (with_view d (put new))) r
group_answers {A} d k text begun room other put old new x may takes_is is spelled r ok err =
    answers (well_made d.transcript.version) (lines d) _ k text spelled r (by_result may r takes_is ok err) where
      by_result : (may : Bool) (r : Result A Cause) → may ≡ takes d k → OnOk r ((may ≡ true) × (new ≡ old ++ x ∷ []))
          → IfErr r (λ why. why ≡ (if may then cause.NoMemory else cause.Form))
          → AnswersLine (grammar_of d) (lines d) k (lines (with_view d (put new))) r
      by_result may (Ok u) takes_is ok err =
          adds {e = with_view d (put new)} (stands d) k (rw ok.1 (sym is)) begun (sym takes_is ∙ ok.0) room
          spelled.0 other
      by_result true (Err why) takes_is ok err =
          rw err (longer_begun (stands d) k begun (sym takes_is) room spelled.0 other)
      by_result false (Err why) takes_is ok err = rw err (misplaced (stands d) k (sym takes_is))

-- a text that is no line of a transcript, kind by kind
module _ (version : Version) (ls : List TranscriptLine) (text : List ℕ)
    (entries : (x : Entry) → FitsEntryIn version x → text ≢ line_of (entry_words x))
    (messages : (x : MessageLine) → FitsMessage x → text ≢ line_of (message_words x))
    (drivers : (x : DriverSpec) → FitsDriver x → text ≢ line_of (driver_words x))
    (config : text ≢ line_text (transcript_grammar version) line.Config)
    (nexts : (x : ℕ × ℕ) → FitsNext x → text ≢ line_of (next_words x))
    (fds : (x : DescriptorLine) → FitsDescriptor x → text ≢ line_of (descriptor_words x))
    (links : (x : LinkLine) → FitsLink x → text ≢ line_of (link_words x))
    (binds : (x : BindingLine) → FitsBinding x → text ≢ line_of (bind_words x))
    (routes : (x : RouteLine) → FitsRoute x → text ≢ line_of (route_words x))
    (fulls : (x : FullLine) → FitsFull x → text ≢ line_of (full_words x))
    (hungs : (x : HungLine) → FitsHungIn version x → text ≢ line_of (hung_words x))
    (end : text ≢ line_text (transcript_grammar version) line.End) where
  -- a text that is no such line is no line after any lines of a transcript
  pub no_line : IsNoLine (transcript_grammar version) ls text
  no_line (line.Driver x) fits may is = drivers x fits is
  no_line (line.Entry x) fits may is = entries x fits is
  no_line line.Config fits may is = config is
  no_line (line.Next id serial) fits may is = nexts (id, serial) fits is
  no_line (line.Fd x) fits may is = fds x fits is
  no_line (line.Link x) fits may is = links x fits is
  no_line (line.Bind x) fits may is = binds x fits is
  no_line (line.Route x) fits may is = routes x fits is
  no_line (line.Msg x) fits may is = messages x fits is
  no_line (line.Full x) fits may is = fulls x fits is
  no_line (line.Hung x) fits may is = hungs x fits is
  no_line line.End fits may is = end is

-- a text other than the end is that of a line that fits, or of no line of a transcript
line_or_not : (version : Version) (ls : List TranscriptLine) (text : List ℕ)
    → text ≢ line_text (transcript_grammar version) line.End → IsLineOrNot (transcript_grammar version) ls text
line_or_not version ls text other =
    by_reading entry_words (reading_in entry_has_words is_of_hangup version text (λ x. omega arith))
    (λ x fits is. inl (line.Entry x, fits, is)) (λ entries.
    by_reading message_words (reading message_has_words (λ x. omega arith) text)
    (λ x fits is. inl (line.Msg x, fits, is)) (λ messages.
    by_reading driver_words (reading driver_has_words (λ x. omega arith) text)
    (λ x fits is. inl (line.Driver x, fits, is)) (λ drivers.
    by_reading next_words (reading next_has_words (λ x. omega arith) text)
    (λ x fits is. inl (line.Next x.0 x.1, fits, is)) (λ nexts.
    by_reading descriptor_words (reading descriptor_has_words (λ x. omega arith) text)
    (λ x fits is. inl (line.Fd x, fits, is)) (λ fds.
    by_reading link_words (reading link_has_words (λ x. omega arith) text)
    (λ x fits is. inl (line.Link x, fits, is)) (λ links.
    by_reading bind_words (reading bind_has_words (λ x. omega arith) text)
    (λ x fits is. inl (line.Bind x, fits, is)) (λ binds.
    by_reading route_words (reading route_has_words (λ x. omega arith) text)
    (λ x fits is. inl (line.Route x, fits, is)) (λ routes.
    by_reading full_words (reading full_has_words (λ x. omega arith) text)
    (λ x fits is. inl (line.Full x, fits, is)) (λ fulls.
    by_reading hung_words (reading_in hung_has_words (λ x. true) version text (λ x. omega arith))
    (λ x fits is. inl (line.Hung x, fits, is)) (λ hungs.
    elim (same_or_not text (line_text (transcript_grammar version) line.Config)) [
      | inl is ↦ inl (line.Config, tt, is)
      | inr config ↦ inr (no_line version ls text entries messages drivers config nexts fds links binds routes fulls
          hungs other)
    ]))))))))))

-- any bytes spell a transcript of this version, or have a first fault other than out of memory
pub transcripts_have_reading : (version : Version) (bytes : List ℕ) → HasReading (transcript_grammar version) bytes
transcripts_have_reading version =
    reads (reader version (new_view 0 0)) (well_made version) (line_or_not version)
