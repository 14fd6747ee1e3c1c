-- A live session has one output, if it never ran out of memory.
use Rattle.smx_live.proofs.Common.{◌≡◌, ◌≢◌, ℕ, Bool, true, false, List, [], ◌∷◌, ◌++◌, map, refl, sym, ap, subst}
use Rattle.smx_live.proofs.Common.{◌∙◌, append_assoc, arith, inl, inr, codes, ProgramLists, Entry, DriverSpec}
use Rattle.smx_live.proofs.Common.{Version, step, Configuration, after, call_of, view, call_words, LINE_FEED, line_of}
use Rattle.smx_live.proofs.Common.{not_one, IsOneLine, programs_grammar, IsExplanationOf, HasOneReading, one_value}
use Rattle.smx_live.proofs.Common.{IsShort, IsOver, table_text, Answer, AreAnswered, Entered, IsAnswer, IsEntryOf}
use Rattle.smx_live.proofs.Common.{NotDone, IsBelow, Shown, Turn, asked_text, entries_in, entries_of, NoCommand}
use Rattle.smx_live.proofs.Common.{NoMemory}
use Rattle.smx_types.specs.declared.command.Command.{Command}
use Rattle.smx_types.specs.declared.reply.Reply.{Reply}
use Rattle.smx_words.proofs.CutLemmas.{apart}
use Rattle.smx_words.specs.Spellable.{FitsCall}
use Rattle.smx_text.specs.Grammar.{beginning}
use Rattle.smx_text.specs.TranscriptLines as line
use Rattle.smx_text.specs.TranscriptText.{transcript_grammar, view_lines}
use Rattle.smx_live.specs.LiveText.{IsAtEnd}
use Rattle.smx_live.specs.Turns.{AsksToShow, HasEnoughMemory, AreFollowed, said_text, traces_after}
use Rattle.smx_live.specs.declared.talk.TurnFault.TheVariants.{Full}
use Rattle.smx_live.proofs.AskedLineLemmas.{no_call_line, no_digit_shows, shows_nothing}
use Rattle.smx_live.proofs.OverTableLemmas.{table_once}

-- ---- what other crates' laws say

-- no two calls have the same line
abbrev pub AreDistinguished : Type 0
AreDistinguished =
    (x y : ℕ × Command) → FitsCall x → FitsCall y → line_of (call_words x) ≡ line_of (call_words y) → x ≡ y

-- a line of a session has only one explanation
abbrev pub IsExplainedOnce : Type 0
IsExplainedOnce = (version : Version) (line one other : List ℕ) → IsExplanationOf version line one
    → IsExplanationOf version line other → one ≡ other

-- ---- answers

module _ (told_apart : AreDistinguished) (version : Version) (drivers : List DriverSpec) (history : List Entry)
    (l : List ℕ) where
  -- a line that asks for the configuration is not that of an entry
  not_shown : (e : Entry) → IsEntryOf version drivers history l e → AsksToShow l → ⊥
  not_shown e is asks = no_call_line version l (no_digit_shows l asks) (call_of e) is.in_version is.is_read

  -- the entry of a call and its reply
  abbrev entry_with : ℕ × Command → Reply → Entry
  entry_with call reply = record { process = call.0; command = call.1; reply = reply }

  -- a line is that of at most one entry
  entry_once : (e f : Entry) → IsEntryOf version drivers history l e → IsEntryOf version drivers history l f → e ≡ f
  entry_once e f is is_too =
      let call : call_of e ≡ call_of f = told_apart (call_of e) (call_of f) is.in_version.0 is_too.in_version.0
      (sym is.is_read ∙ is_too.is_read) in
      let reply : e.reply ≡ f.reply = sym is.legal
      ∙ ap (λ (c : ℕ × Command). (step drivers (after drivers history) c.0 c.1).1) call ∙ is_too.legal in
      ap (λ (c : ℕ × Command). entry_with c e.reply) call ∙ ap (λ (r : Reply). entry_with (call_of f) r) reply

  -- a line has at most one answer, apart from out-of-memory
  answer_once : (a b : Answer) → IsAnswer version drivers history l a → IsAnswer version drivers history l b
      → a ≢ NotDone NoMemory → b ≢ NotDone NoMemory → a ≡ b
  answer_once (Entered e) (Entered f) is is_too had had_too = ap Entered (entry_once e f is is_too)
  answer_once (Entered e) (Shown v) is is_too had had_too = absurd (not_shown e is is_too.0)
  answer_once (Entered e) (NotDone NoCommand) is is_too had had_too =
      absurd (is_too.1 (call_of e) is.in_version is.is_read)
  answer_once (Entered e) (NotDone NoMemory) is is_too had had_too = absurd (had_too refl)
  answer_once (Entered e) (NotDone Full) is is_too had had_too = absurd (omega (arith, is.room, is_too.1))
  answer_once (Shown v) (Entered e) is is_too had had_too = absurd (not_shown e is_too is.0)
  answer_once (Shown v) (Shown w) is is_too had had_too = ap Shown (is.1 ∙ sym is_too.1)
  answer_once (Shown v) (NotDone NoCommand) is is_too had had_too = absurd (is_too.0.0 is.0)
  answer_once (Shown v) (NotDone NoMemory) is is_too had had_too = absurd (had_too refl)
  answer_once (Shown v) (NotDone Full) is is_too had had_too = absurd (is_too.0.0 is.0)
  answer_once (NotDone NoMemory) b is is_too had had_too = absurd (had refl)
  answer_once (NotDone NoCommand) (Entered e) is is_too had had_too =
      absurd (is.1 (call_of e) is_too.in_version is_too.is_read)
  answer_once (NotDone NoCommand) (Shown v) is is_too had had_too = absurd (is.0.0 is_too.0)
  answer_once (NotDone NoCommand) (NotDone NoCommand) is is_too had had_too = refl
  answer_once (NotDone NoCommand) (NotDone NoMemory) is is_too had had_too = absurd (had_too refl)
  answer_once (NotDone NoCommand) (NotDone Full) is is_too had had_too = absurd (omega (arith, is.2, is_too.1))
  answer_once (NotDone Full) (Entered e) is is_too had had_too = absurd (omega (arith, is_too.room, is.1))
  answer_once (NotDone Full) (Shown v) is is_too had had_too = absurd (is.0.0 is_too.0)
  answer_once (NotDone Full) (NotDone NoCommand) is is_too had had_too = absurd (omega (arith, is_too.2, is.1))
  answer_once (NotDone Full) (NotDone NoMemory) is is_too had had_too = absurd (had_too refl)
  answer_once (NotDone Full) (NotDone Full) is is_too had had_too = refl

  -- the line `end` has no answer, apart from out-of-memory
  no_answer : (a : Answer) → IsAnswer version drivers history l a → a ≢ NotDone NoMemory → l ≡ codes "end" → ⊥
  no_answer (Entered e) is had end = no_call_line version l (rw end refl) (call_of e) is.in_version is.is_read
  no_answer (Shown v) is had end = shows_nothing (codes "end") refl (rw end at is.0)
  no_answer (NotDone NoCommand) is had end = is.0.1 end
  no_answer (NotDone NoMemory) is had end = had refl
  no_answer (NotDone Full) is had end = is.0.1 end

-- ---- turns

-- the lines of turns, and what is held after them, begin with the line of the first turn
pub asked_cons : (t : Turn) (ts : List Turn) (held : List ℕ)
    → asked_text (t ∷ ts) ++ held ≡ t.line ++ LINE_FEED ∷ (asked_text ts ++ held)
asked_cons t ts held = simp append_assoc

-- a last line without a line feed is not the line `end`
no_end : (more held : List ℕ) → IsOneLine held → held ≡ codes "end\n" ++ more → ⊥
no_end more held one is = not_one (codes "end") more (subst IsOneLine is one)

-- a session can be at its end in only one way
words_once : (ended : Bool) (held words said : List ℕ) → IsAtEnd ended held words → IsAtEnd ended held said
    → words ≡ said
words_once ended held words said (inl (more, is, none)) (inl (rest, is_too, none_too)) = none ∙ sym none_too
words_once ended held words said (inl (more, is, none)) (inr (end, short, cut)) = absurd (no_end more held short.0 is)
words_once ended held words said (inr (end, short, cut)) (inl (more, is, none)) = absurd (no_end more held short.0 is)
words_once ended held words said (inr (end, short, cut)) (inr (end_too, short_too, cut_too)) = cut ∙ sym cut_too

-- only one text belongs below an answer
below_once : IsExplainedOnce → (explain : Bool) (version : Version) (drivers : List DriverSpec) (tracing : Bool)
    (c d : Configuration) (line : List ℕ) (a : Answer) (one other : List ℕ)
    → IsBelow explain version drivers tracing c d line a one
    → IsBelow explain version drivers tracing c d line a other → one ≡ other
below_once once explain version drivers tracing c d line (Entered e) one other is is_too = is ∙ sym is_too
below_once once explain version drivers tracing c d line (Shown v) one other is is_too = is ∙ sym is_too
below_once once true version drivers tracing c d line (NotDone NoCommand) one other is is_too =
    once version line one other is is_too
below_once once false version drivers tracing c d line (NotDone NoCommand) one other is is_too = is ∙ sym is_too
below_once once explain version drivers tracing c d line (NotDone NoMemory) one other is is_too = is ∙ sym is_too
below_once once explain version drivers tracing c d line (NotDone Full) one other is is_too = is ∙ sym is_too

module _ (explain : Bool) (once : IsExplainedOnce) (version : Version) (drivers : List DriverSpec)
    (told_apart : AreDistinguished) (ended : Bool) where
  -- no line is answered at the end of a session
  none_behind : (history : List Entry) (u : Turn) (rest held words : List ℕ) → IsAtEnd ended held words
      → held ≡ u.line ++ LINE_FEED ∷ rest → IsShort u.line → IsAnswer version drivers history u.line u.answer
      → u.answer ≢ NotDone NoMemory → ⊥
  none_behind history u rest held words (inl (more, is, none)) cut short answered had =
      let same = apart LINE_FEED u.line (codes "end") rest more short.0 (search arith) (sym cut ∙ is) in
      no_answer told_apart version drivers history u.line u.answer answered had same.0
  none_behind history u rest held words (inr (end, one, said)) cut short answered had =
      not_one u.line rest (subst IsOneLine cut one.0)

  -- turns with the same lines are the same
  turns_once : (history : List Entry) (tracing : Bool) (ts us : List Turn) (held more words said : List ℕ)
      → AreAnswered version drivers history ts → AreAnswered version drivers history us
      → AreFollowed explain version drivers history tracing ts
      → AreFollowed explain version drivers history tracing us
      → HasEnoughMemory ts → HasEnoughMemory us
      → IsAtEnd ended held words → IsAtEnd ended more said → asked_text ts ++ held ≡ asked_text us ++ more
      → (ts ≡ us) × (words ≡ said)
  turns_once history tracing [] [] held more words said was was_too told told_too had had_too at at_too e =
      (refl, words_once ended more words said (subst (λ (h : List ℕ). IsAtEnd ended h words) e at) at_too)
  turns_once history tracing [] (u ∷ us) held more words said was was_too told told_too had had_too at at_too e =
      absurd (none_behind history u (asked_text us ++ more) held words at (e ∙ asked_cons u us more) was_too.0 was_too.1
      had_too.0)
  turns_once history tracing (t ∷ ts) [] held more words said was was_too told told_too had had_too at at_too e =
      absurd (none_behind history t (asked_text ts ++ held) more said at_too (sym e ∙ asked_cons t ts held) was.0 was.1
      had.0)
  turns_once history tracing (t ∷ ts) (u ∷ us) held more words said was was_too told told_too had had_too at at_too
      e =
      let cut = apart LINE_FEED t.line u.line (asked_text ts ++ held) (asked_text us ++ more) was.0.0 was_too.0.0
      (sym (asked_cons t ts held) ∙ e ∙ asked_cons u us more) in
      let answer : t.answer ≡ u.answer = answer_once told_apart version drivers history t.line t.answer u.answer was.1
      (rw cut.0 was_too.1) had.0 had_too.0 in
      let below : t.below ≡ u.below = below_once once explain version drivers tracing (after drivers history)
      (after drivers (history ++ entries_in t.answer)) t.line t.answer t.below u.below told.0
      (rw (cut.0, answer) told_too.0) in
      let same : t ≡ u = ap (λ (l : List ℕ). turn l t.answer t.below) cut.0
      ∙ ap (λ (a : Answer). turn u.line a t.below) answer ∙ ap (turn u.line u.answer) below in
      let others = turns_once (history ++ entries_in t.answer) (traces_after tracing t.line t.answer) ts us held more
      words said was.2 (rw answer was_too.2) told.1 (rw (cut.0, answer) told_too.1) had.1 had_too.1 at at_too cut.1 in
      (ap (λ (x : Turn). x ∷ ts) same ∙ ap (λ (xs : List Turn). u ∷ xs) others.0, others.1) where
        turn : List ℕ → Answer → List ℕ → Turn
        turn l a below = record { line = l; answer = a; below = below }

-- ---- sessions

-- the output of a session, by its drivers and its turns
abbrev whole_output : Version → List DriverSpec → List Turn → List ℕ → List ℕ
whole_output version drivers turns words =
    (beginning (transcript_grammar version) (map line.Driver drivers ++ map line.Entry []) ++ said_text turns)
    ++ (words ++ (view_lines (view drivers (after drivers (entries_of turns))) ++ codes "end\n"))

-- what a session that has ended wrote is its output, by its drivers, its turns and its last words
output_is : {explain : Bool} (read : List ℕ) (ended : Bool) (output : List ℕ) (o : IsOver explain read ended output)
    → output ≡ whole_output o.s.version o.s.drivers o.live.turns o.words
output_is read ended output o = rw (o.written, o.live.written, o.live.begins.written, o.live.now) refl

-- two sessions that ended over the same bytes, and never ran out of memory, have written the same
pub one_output : HasOneReading programs_grammar → AreDistinguished → IsExplainedOnce → (explain : Bool) (read : List ℕ)
    (ended : Bool) (one other : List ℕ) (o : IsOver explain read ended one) (p : IsOver explain read ended other)
    → HasEnoughMemory o.live.turns → HasEnoughMemory p.live.turns → one ≡ other
one_output reading told_apart once explain read ended one other o p had had_too =
    output_is read ended one o ∙ ap (λ (v : Version). whole_output v o.s.drivers o.live.turns o.words) version
    ∙ ap (λ (ds : List DriverSpec). whole_output p.s.version ds o.live.turns o.words) drivers
    ∙ ap (λ (ts : List Turn). whole_output p.s.version p.s.drivers ts o.words) turns.0
    ∙ ap (whole_output p.s.version p.s.drivers p.live.turns) turns.1 ∙ sym (output_is read ended other p) where
      table : (o.live.table ≡ p.live.table)
          × (asked_text o.live.turns ++ o.held ≡ asked_text p.live.turns ++ p.held)
      table = table_once ended o.live.table p.live.table _ _ o.live.over p.live.over
          (sym o.live.read_is ∙ p.live.read_is)

      programs : o.live.programs ≡ p.live.programs
      programs = one_value programs_grammar reading (table_text p.live.table) o.s.version p.s.version o.live.programs
          p.live.programs (rw table.0 at o.live.spelled) p.live.spelled

      version : o.s.version ≡ p.s.version
      version = sym o.live.spelled.allowed.version_is ∙ ap (λ (x : ProgramLists). x.version) programs
          ∙ p.live.spelled.allowed.version_is

      drivers : o.s.drivers ≡ p.s.drivers
      drivers = o.live.drivers ∙ ap (λ (x : ProgramLists). x.drivers) programs ∙ sym p.live.drivers

      turns : (o.live.turns ≡ p.live.turns) × (o.words ≡ p.words)
      turns = turns_once explain once p.s.version p.s.drivers told_apart ended [] false o.live.turns p.live.turns o.held
          p.held o.words p.words (rw (version, drivers) at o.live.answered) p.live.answered
          (rw (version, drivers) at o.live.followed) p.live.followed had had_too o.at_end p.at_end table.1
