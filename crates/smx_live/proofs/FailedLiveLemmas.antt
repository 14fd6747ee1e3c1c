-- How far a session has come if a read fails, or if a line is too long.
use Rattle.smx_live.proofs.Common.{◌≡◌, ℕ, Bool, false, List, [], ◌∷◌, ◌++◌, ◌<◌, length, refl, sym, ap, subst}
use Rattle.smx_live.proofs.Common.{◌∙◌, inl, inr, arith, rules, length-append, not_one, codes, ProgramLists, V2}
use Rattle.smx_live.proofs.Common.{LINE_FEED, line_of, Spells, programs_grammar, HasOneReading, one_value, IsOneLine}
use Rattle.smx_live.proofs.Common.{IsStartOf, State, Progress, HasLine, IsTooLong, MAX_INPUT, IsLive, table_text, Turn}
use Rattle.smx_live.proofs.Common.{asked_text, Answer, Entered, Shown, NotDone, NoCommand, NoMemory, worked_table}
use Rattle.smx_words.specs.Spelling.{entry_words}
use Rattle.smx_text.specs.TranscriptText.{view_lines}
use Rattle.smx_session.specs.WorkedSessions.{begun, drivers, table}
use Rattle.smx_live.specs.LiveText.{IsEndless}
use Rattle.smx_live.specs.Turns.{answer_text, said_text}
use Rattle.smx_live.specs.WorkedLives.{worked_opening, worked_line}
use Rattle.smx_live.specs.declared.talk.TurnFault.TheVariants.{Full}
use Rattle.smx_live.proofs.OverTableLemmas.{line_fits, table_once}
use Rattle.smx_live.proofs.TableLemmas.{long_line, long_table}
use Rattle.smx_live.proofs.WorkedLiveLemmas.{opening_is, worked_over}

-- no answer is empty
some_answer : (a : Answer) → 0 < length (answer_text a)
some_answer (Entered e) = omega (arith, length-append (line_of (entry_words e)) (LINE_FEED ∷ []))
some_answer (Shown v) = omega (arith, length-append (view_lines v) (codes "shown\n"))
some_answer (NotDone NoCommand) = search arith
some_answer (NotDone NoMemory) = search arith
some_answer (NotDone Full) = search arith

-- without a text there is no turn
no_texts : (ts : List Turn) → length (said_text ts) ≡ 0 → ts ≡ []
no_texts [] e = refl
no_texts (t ∷ ts) e =
    absurd (omega (
      arith,
      e,
      some_answer t.answer,
      length-append (answer_text t.answer) t.below,
      length-append (answer_text t.answer ++ t.below) (said_text ts),
    ))

-- a session that has read a line after the worked table, and has written only the opening, still holds that line
still_held : HasOneReading programs_grammar → IsStartOf table begun → (explain : Bool) (more held : List ℕ) (s : State)
    (far : Progress) → IsLive explain (worked_table ++ (worked_line ++ more)) false worked_opening s far held
    → held ≡ worked_line ++ more
still_held reading start explain more held s far l =
    let same = table_once false worked_table l.table (worked_line ++ more) (asked_text l.turns ++ held)
    (worked_over more) l.over l.read_is in
    let value : l.programs ≡ start.programs = one_value programs_grammar reading table s.version V2 l.programs
    start.programs (subst (λ (t : List ℕ). Spells (programs_grammar s.version) (table_text t) l.programs) (sym same.0)
    l.spelled) start.spelled in
    let version : s.version ≡ V2 = sym l.spelled.allowed.version_is
    ∙ ap (λ (p : ProgramLists). p.version) value ∙ start.spelled.allowed.version_is in
    let own : s.drivers ≡ drivers = l.drivers ∙ ap (λ (p : ProgramLists). p.drivers) value ∙ sym start.drivers in
    let first : l.opening ≡ worked_opening = rw (l.begins.written, version, own) (sym opening_is) in
    let none : l.turns ≡ [] = no_texts l.turns (omega (
      arith,
      ap (λ (bs : List ℕ). length bs) l.written,
      ap (λ (bs : List ℕ). length bs) first,
      length-append l.opening (said_text l.turns),
    )) in
    sym (subst (λ (ts : List Turn). worked_line ++ more ≡ asked_text ts ++ held) none same.1)

-- so what it holds is more than one line
pub not_one_line : HasOneReading programs_grammar → IsStartOf table begun → (explain : Bool) (more held : List ℕ)
    (s : State) (far : Progress)
    → IsLive explain (worked_table ++ (worked_line ++ more)) false worked_opening s far held → IsOneLine held → ⊥
not_one_line reading start explain more held s far l one =
    not_one (codes "3 clone eth") more (subst IsOneLine (still_held reading start explain more held s far l) one)

-- and its first line is not too long
pub not_too_long : HasOneReading programs_grammar → IsStartOf table begun → (explain : Bool) (more held : List ℕ)
    (s : State) (far : Progress)
    → IsLive explain (worked_table ++ (worked_line ++ more)) false worked_opening s far held → IsTooLong held → ⊥
not_too_long reading start explain more held s far l long =
    let line : HasLine 11 (worked_line ++ more) = record {
      within = omega (arith, length-append worked_line more);
      one = search (rules, arith);
      parts = refl;
    } in
    line_fits 11 (worked_line ++ more) line (search arith)
    (subst IsTooLong (still_held reading start explain more held s far l) long)

-- what is too long has more bytes than the limit
pub endless_is_long : (explain : Bool) (read : List ℕ) (ended : Bool) (output : List ℕ)
    → IsEndless explain read ended output → MAX_INPUT < length read
endless_is_long explain read ended output (inl (none, long)) = long_table read long
endless_is_long explain read ended output (inr (s, far, held, l, inl long)) = omega (
  arith,
  long_line held long,
  ap (λ (bs : List ℕ). length bs) l.read_is,
  length-append l.table (asked_text l.turns ++ held),
  length-append (asked_text l.turns) held,
)
endless_is_long explain read ended output (inr (s, far, held, l, inr many)) = omega (arith, many)
