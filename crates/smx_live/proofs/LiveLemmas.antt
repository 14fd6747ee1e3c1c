-- How a live session goes on: one more turn, more bytes, its beginning and its end.
use Rattle.smx_live.proofs.Common.{◌≡◌, ℕ, ◌+◌, ◌≤◌, Bool, true, false, List, [], ◌∷◌, ◌++◌, length, take, drop, refl}
use Rattle.smx_live.proofs.Common.{sym, ap, subst, ◌∙◌, append_assoc, arith, inl, length-append, length-take-le}
use Rattle.smx_live.proofs.Common.{Entry, DriverSpec, Version, step, Configuration, after, call_of, view, call_words}
use Rattle.smx_live.proofs.Common.{LINE_FEED, line_of, BeginsTranscript, IsStartOf, State, MAX_INPUT, HasLine}
use Rattle.smx_live.proofs.Common.{IsShort, IsLive, IsOver, IsTable, table_text, Answer, Entered, Shown, NotDone}
use Rattle.smx_live.proofs.Common.{Turn, AreAnswered, IsAnswer, IsBelow, IsEntryOf, asked_text, entries_in}
use Rattle.smx_live.proofs.Common.{entries_of, Progress}
use Rattle.std.proofs.Common.{Some}
use Rattle.std.proofs.lemmas.List.{append-nil}
use Rattle.smx_types.specs.declared.limits.TheConstants.{MAX_COMMANDS}
use Rattle.smx_types.specs.declared.reply.Reply.{Reply}
use Rattle.smx_model.proofs.HistoryLemmas.{after_push}
use Rattle.smx_text.specs.TranscriptText.{IsSpellableView}
use Rattle.smx_live.specs.LiveText.{IsAtEnd, closing_text}
use Rattle.smx_live.specs.LiveTurns.{IsTurnText}
use Rattle.smx_live.specs.Turns.{AreFollowed, IsTaken, answer_text, traces_after, traces_behind}
use Rattle.smx_live.proofs.TableLemmas.{flat_more, still_a_table}

-- ---- one more at the end

-- answered turns stay answered with one more answered turn after them
answered_more : (v : Version) (ds : List DriverSpec) (h : List Entry) (ts : List Turn) (t : Turn)
    → AreAnswered v ds h ts → IsShort t.line → IsAnswer v ds (h ++ entries_of ts) t.line t.answer
    → AreAnswered v ds h (ts ++ t ∷ [])
answered_more v ds h [] t was one a = (one, rw append-nil at a, tt)
answered_more v ds h (u ∷ ts) t was one a = (
  was.0,
  was.1,
  answered_more v ds (h ++ entries_in u.answer) ts t was.2 one
      (rw (append_assoc h (entries_in u.answer) (entries_of ts)) a),
)

module _ (explain : Bool) (v : Version) (ds : List DriverSpec) where
  -- what is below the turn belongs there, after these entries
  abbrev IsFollowed : Bool → List Entry → Turn → Type 0
  IsFollowed tracing h t =
      IsBelow explain v ds tracing (after ds h) (after ds (h ++ entries_in t.answer)) t.line t.answer t.below

  -- turns that are followed by what belongs below them stay so with one more such turn after them
  followed_more : (h : List Entry) (tracing : Bool) (ts : List Turn) (t : Turn) → AreFollowed explain v ds h tracing ts
      → IsFollowed (traces_behind tracing ts) (h ++ entries_of ts) t → AreFollowed explain v ds h tracing (ts ++ t ∷ [])
  followed_more h tracing [] t was is = (rw append-nil at is, tt)
  followed_more h tracing (u ∷ ts) t was is = (
    was.0,
    followed_more (h ++ entries_in u.answer) (traces_after tracing u.line u.answer) ts t was.1
        (rw (append_assoc h (entries_in u.answer) (entries_of ts)) is),
  )

-- the last turn decides whether entries are traced after it
traces_more : (tracing : Bool) (ts : List Turn) (t : Turn)
    → traces_behind tracing (ts ++ t ∷ []) ≡ traces_after (traces_behind tracing ts) t.line t.answer
traces_more tracing [] t = refl
traces_more tracing (u ∷ ts) t = traces_more (traces_after tracing u.line u.answer) ts t

-- ---- its end

-- a session at its end has ended once its last lines are written
pub at_its_end : {explain : Bool} {read : List ℕ} {ended : Bool} {output : List ℕ} {s : State} {far : Progress}
    {held : List ℕ} → IsLive explain read ended output s far held → (words : List ℕ) → IsAtEnd ended held words
    → IsSpellableView (view s.drivers s.configuration) → IsOver explain read ended (output ++ (words ++ closing_text s))
at_its_end {output = output} {s} {far} {held} l words at fits = record {
  before = output;
  s = s;
  far = far;
  held = held;
  live = l;
  words = words;
  at_end = at;
  written = refl;
  spellable = fits;
}

-- ---- one more turn

module _ {explain : Bool} {read : List ℕ} {ended : Bool} {output : List ℕ} {s : State}
    {far : Progress} {n : ℕ} {held : List ℕ} (l : IsLive explain read ended output s far held) (line : HasLine n held)
    (small : n ≤ MAX_INPUT) where
  -- the turn of the first line, with this answer
  abbrev turn : Answer → List ℕ → Turn
  turn a below = record { line = take n held; answer = a; below = below }

  -- the first line is accepted
  short : IsShort (take n held)
  short = (line.one, omega (arith, small, length-take-le n held (omega (arith, line.within))))

  -- the lines of the turns and what is held are the lines with this one added, and the bytes after it
  behind : (a : Answer) (below : List ℕ)
      → asked_text l.turns ++ held ≡ asked_text (l.turns ++ turn a below ∷ []) ++ drop (n + 1) held
  behind a below = ap (λ (h : List ℕ). asked_text l.turns ++ h) line.parts
      ∙ sym (simp (flat_more, append_assoc))

  -- the session goes on after an answer, if it then has the configuration and the count of entries after it
  goes_on : (a : Answer) (below : List ℕ) (next : State) (more : Progress) → next.version ≡ s.version
      → next.drivers ≡ s.drivers → next.configuration ≡ after s.drivers (entries_of l.turns ++ entries_in a)
      → more.entries ≡ length (entries_of l.turns ++ entries_in a) → more.entries ≤ MAX_COMMANDS
      → more.tracing ≡ traces_after far.tracing (take n held) a
      → IsAnswer s.version s.drivers (entries_of l.turns) (take n held) a
      → IsBelow explain s.version s.drivers far.tracing s.configuration next.configuration (take n held) a below
      → IsLive explain read ended (output ++ (answer_text a ++ below)) next more (drop (n + 1) held)
  goes_on a below next more version drivers now counted few tracing right belongs =
      let t : Turn = turn a below in
      let longer : entries_of (l.turns ++ t ∷ []) ≡ entries_of l.turns ++ entries_in a =
      flat_more (λ (u : Turn). entries_in u.answer) l.turns t in
      record {
        table = l.table;
        turns = l.turns ++ t ∷ [];
        read_is = l.read_is ∙ ap (λ (h : List ℕ). l.table ++ h) (behind a below);
        over = subst (IsTable ended l.table) (behind a below) l.over;
        fits = l.fits;
        programs = l.programs;
        spelled = rw version l.spelled;
        drivers = drivers ∙ l.drivers;
        valid_drivers = rw drivers l.valid_drivers;
        answered = rw (version, drivers)
            (answered_more s.version s.drivers [] l.turns t l.answered short right);
        few = rw (longer, ← counted) few;
        followed = rw (version, drivers) (followed_more explain s.version s.drivers [] false l.turns t l.followed
            (rw (now, l.now, l.tracing) at belongs));
        tracing = tracing ∙ ap (λ (b : Bool). traces_after b (take n held) a) l.tracing
            ∙ sym (traces_more false l.turns t);
        opening = l.opening;
        begins = rw (version, drivers) l.begins;
        written = rw l.written (simp (flat_more, append_assoc));
        now = rw (drivers, longer) now;
        counted = rw longer counted;
      }

  -- the session stays as it is after an answer that is not an entry
  stays : (a : Answer) → entries_in a ≡ [] → (below : List ℕ) (next : State) (more : Progress) → next ≡ s
      → more.entries ≡ far.entries → more.tracing ≡ traces_after far.tracing (take n held) a
      → IsAnswer s.version s.drivers (entries_of l.turns) (take n held) a
      → IsBelow explain s.version s.drivers far.tracing s.configuration next.configuration (take n held) a below
      → IsLive explain read ended (output ++ (answer_text a ++ below)) next more (drop (n + 1) held)
  stays a none below next more same entries tracing =
      goes_on a below next more (ap (λ (x : State). x.version) same) (ap (λ (x : State). x.drivers) same)
      (rw (none, append-nil) (ap (λ (x : State). x.configuration) same ∙ l.now))
      (rw (none, append-nil) (entries ∙ l.counted)) (omega (arith, entries, l.counted, l.few)) tracing

  -- the session goes on after any answer to the first line, with what belongs below it
  pub turned : (a : Answer) (below : List ℕ) (next : State) (more : Progress) → IsTaken s far (take n held) a next more
      → IsBelow explain s.version s.drivers far.tracing s.configuration next.configuration (take n held) a below
      → IsLive explain read ended (output ++ (answer_text a ++ below)) next more (drop (n + 1) held)
  turned (Entered e) below next more h belongs =
      let p = h.performs in
      let es : List Entry = entries_of l.turns in
      let is : Some e ≡ Some p.entry = sym h.last ∙ p.last in
      let same : p.entry ≡ e = cc in
      let does : step s.drivers (after s.drivers es) e.process e.command ≡ (next.configuration, e.reply) =
      rw (same, l.now) at p.does in
      let right : IsEntryOf s.version s.drivers es (take n held) e = record {
        in_version = rw same at p.fits;
        is_read = subst (λ (x : Entry). take n held ≡ line_of (call_words (call_of x))) same p.is_read;
        legal = ap (λ (x : Configuration × Reply). x.1) does;
        spelled = h.spelled;
        room = omega (arith, h.room, l.counted);
      } in
      goes_on (Entered e) below next more p.version p.drivers
      (sym (ap (λ (x : Configuration × Reply). x.0) does) ∙ sym (after_push s.drivers es e))
      (omega (arith, h.counted, l.counted, length-append es (e ∷ []))) (omega (arith, h.counted, h.room)) h.tracing
      right belongs
  turned (Shown v) below next more h belongs =
      stays (Shown v) refl below next more h.2 (ap (λ (p : Progress). p.entries) h.3)
      (ap (λ (p : Progress). p.tracing) h.3) (h.0, h.1 ∙ ap (view s.drivers) l.now) belongs
  turned (NotDone w) below next more h belongs =
      stays (NotDone w) refl below next more h.1 (ap (λ (p : Progress). p.entries) h.2)
      (ap (λ (p : Progress). p.tracing) h.2) (rw l.counted at h.0) belongs

  -- if the first line asks for the end, the session has ended once its last lines are written
  pub ended_by_line : (whole : List ℕ) (next : State) (more : Progress)
      → IsTurnText explain s far (take n held) next more true whole → IsOver explain read ended (output ++ whole)
  ended_by_line whole next more (is, fits, lines) = rw lines (at_its_end l []
      (inl (drop (n + 1) held, line.parts ∙ ap (λ (t : List ℕ). t ++ LINE_FEED ∷ drop (n + 1) held) is, refl)) fits)

-- ---- its beginning, and more bytes

-- a session over a table that was read, and whose opening was written, has no answers yet
pub begun : {explain : Bool} {read table held : List ℕ} {ended : Bool} {opening : List ℕ} {s : State}
    → read ≡ table ++ held → IsTable ended table held → length table ≤ MAX_INPUT → IsStartOf (table_text table) s
    → BeginsTranscript s.version s.drivers [] opening
    → IsLive explain read ended opening s (record { entries = 0; tracing = false }) held
begun {table = table} {opening = opening} parts over fits start begins = record {
  table = table;
  turns = [];
  read_is = parts;
  over = over;
  fits = fits;
  programs = start.programs;
  spelled = start.spelled;
  drivers = start.drivers;
  valid_drivers = start.valid_drivers;
  answered = tt;
  few = omega arith;
  followed = tt;
  tracing = refl;
  opening = opening;
  begins = begins;
  written = sym (append-nil opening);
  now = start.nothing;
  counted = refl;
}

-- a session keeps its state and holds more when more is read from an input that has not ended
pub with_more : {explain : Bool} {read : List ℕ} (more : List ℕ) {ended now : Bool} {output : List ℕ} {s : State}
    {far : Progress} {held : List ℕ} → IsLive explain read ended output s far held
    → (ended ≡ true → (more ≡ []) × (now ≡ true)) → IsLive explain (read ++ more) now output s far (held ++ more)
with_more more {ended} {now} {held = held} l stays = record {
  table = l.table;
  turns = l.turns;
  read_is = rw l.read_is (simp append_assoc);
  over = rw (← append_assoc (asked_text l.turns) held more)
      (still_a_table ended now l.table (asked_text l.turns ++ held) more l.over stays);
  fits = l.fits;
  programs = l.programs;
  spelled = l.spelled;
  drivers = l.drivers;
  valid_drivers = l.valid_drivers;
  answered = l.answered;
  few = l.few;
  followed = l.followed;
  tracing = l.tracing;
  opening = l.opening;
  begins = l.begins;
  written = l.written;
  now = l.now;
  counted = l.counted;
}

-- at least as many bytes were read as are held
pub held_of_read : {explain : Bool} {read : List ℕ} {ended : Bool} {output : List ℕ} {s : State} {far : Progress}
    {held : List ℕ} → IsLive explain read ended output s far held → length held ≤ length read
held_of_read {held = held} l =
    omega (
      arith,
      ap (λ (bs : List ℕ). length bs) l.read_is,
      length-append l.table (asked_text l.turns ++ held),
      length-append (asked_text l.turns) held,
    )
