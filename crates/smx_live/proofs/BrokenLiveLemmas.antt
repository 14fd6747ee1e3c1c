-- The output of a worked session if memory runs out.
use Rattle.smx_live.proofs.Common.{◌≡◌, ◌≢◌, ℕ, Bool, true, false, List, [], ◌∷◌, ◌++◌, length, refl, sym, ap, subst}
use Rattle.smx_live.proofs.Common.{◌∙◌, inl, inr, arith, length-append, codes, ProgramLists, V2, LINE_FEED, Spells}
use Rattle.smx_live.proofs.Common.{programs_grammar, HasOneReading, one_value, IsExplanationOf, IsStartOf}
use Rattle.smx_live.proofs.Common.{HasComeSoFar, IsTable, table_text, Turn, asked_text, worked_table}
use Rattle.std.proofs.lemmas.List.{append-nil}
use Rattle.smx_session.specs.WorkedSessions.{begun, drivers, opened, table}
use Rattle.smx_live.specs.LiveText.{IsBroken}
use Rattle.smx_live.specs.WorkedLives.{worked_answers, worked_below, worked_input}
use Rattle.smx_live.proofs.OneOutputLemmas.{asked_cons}
use Rattle.smx_live.proofs.OverTableLemmas.{table_once}
use Rattle.smx_live.proofs.LiveLemmas as live
use Rattle.smx_live.proofs.TableLemmas.{over_at_the_end}
use Rattle.smx_live.proofs.WorkedLiveLemmas.{answered, begins, opening_is, worked_lines, worked_over}

-- the opening of the worked session
abbrev opening : List ℕ
opening = codes "transcript 2\ndriver eth leaf 2 8 3 16\n"

-- ---- possible output

-- the opening of the worked session is possible output
pub opening_out : IsStartOf table begun → (explain : Bool) → IsBroken explain worked_input false opening
opening_out start explain = inr (
  begun,
  record { entries = 0; tracing = false },
  codes "3 clone eth\n\nx\nend\n3 exit\n",
  live.begun refl (worked_over (codes "\nx\nend\n3 exit\n")) (search arith) start begins,
)

-- and its opening with its answers
pub answers_out : IsStartOf table begun → IsExplanationOf V2 (codes "x") (worked_below true) → (explain : Bool)
    → IsBroken explain worked_input false (worked_answers explain)
answers_out start told explain =
    inr (opened, record { entries = 1; tracing = false }, codes "end\n3 exit\n", answered start told explain)

-- ---- impossible output

-- the worked table has ended if the input ends after it
over_at_end : IsTable true worked_table []
over_at_end =
    over_at_the_end worked_table _ [] refl worked_lines true refl (tt, search arith) (inr refl)

-- no turn was taken if no line was asked
no_turns : (ts : List Turn) (held : List ℕ) → asked_text ts ++ held ≡ [] → ts ≡ []
no_turns [] held e = refl
no_turns (t ∷ ts) held e =
    absurd (omega (
      arith,
      length-append t.line (LINE_FEED ∷ (asked_text ts ++ held)),
      ap (λ (bs : List ℕ). length bs) (sym (asked_cons t ts held) ∙ e),
    ))

-- a session whose input ends after the worked table has written only the opening
opening_alone : HasOneReading programs_grammar → IsStartOf table begun → (explain : Bool) (output : List ℕ)
    → HasComeSoFar explain worked_table true output → output ≡ opening
opening_alone reading start explain output (s, far, held, l) =
    let read : worked_table ++ [] ≡ l.table ++ (asked_text l.turns ++ held) = append-nil worked_table ∙ l.read_is in
    let same = table_once true worked_table l.table [] (asked_text l.turns ++ held) over_at_end l.over read in
    let none : l.turns ≡ [] = no_turns l.turns held (sym same.1) in
    let value : l.programs ≡ start.programs = one_value programs_grammar reading table s.version V2 l.programs
    start.programs (subst (λ (t : List ℕ). Spells (programs_grammar s.version) (table_text t) l.programs) (sym same.0)
    l.spelled) start.spelled in
    let version : s.version ≡ V2 = sym l.spelled.allowed.version_is
    ∙ ap (λ (p : ProgramLists). p.version) value ∙ start.spelled.allowed.version_is in
    let own : s.drivers ≡ drivers = l.drivers ∙ ap (λ (p : ProgramLists). p.drivers) value ∙ sym start.drivers in
    rw (l.written, none, append-nil, l.begins.written, version, own) (sym opening_is)

-- so an output that is neither empty nor the opening is impossible
pub not_out : HasOneReading programs_grammar → IsStartOf table begun → (output : List ℕ) → output ≢ []
    → output ≢ opening → (explain : Bool) → IsBroken explain worked_table true output → ⊥
not_out reading start output some other explain (inl none) = some none
not_out reading start output some other explain (inr far) = other (opening_alone reading start explain output far)
