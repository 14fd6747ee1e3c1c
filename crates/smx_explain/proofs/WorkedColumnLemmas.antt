-- The worked columns, word by word.
use Rattle.smx_explain.proofs.Common.{ℕ, List, [], ◌∷◌, ◌++◌, Some, None, refl, inl, inr, Bor, arith, rules, codes}
use Rattle.smx_explain.proofs.Common.{Version, V1, V2, IsColumn, IsWhole, GoesOn, IsFixed, IsOther, rows_in, Choice}
use Rattle.smx_explain.proofs.Common.{Session, Value}
use Rattle.std.specs.Fmt.{digits}
use Rattle.smx_explain.specs.WorkedColumns.{choice_at, value_at}
use Rattle.smx_explain.specs.declared.kinds.Choice.TheVariants as choice
use Rattle.smx_explain.specs.declared.kinds.LineKind.TheVariants.{Programs, Transcript}
use Rattle.smx_explain.specs.declared.kinds.Value.TheVariants as value
use Rattle.smx_explain.proofs.DeterminedLemmas.{not_new}
use Rattle.smx_explain.proofs.ColumnLemmas.{HasCome, at_begin, ends_here, one_more, stops_here, whole_here}

-- bytes as the code sees them
abbrev pub seen : List ℕ → Bor (List ℕ)
seen bytes = record { ref_ptr = (0, 0); now = bytes }

-- the start of a line of programs
programs : (version : Version) (line : List ℕ)
    → HasCome Programs version line 1 (Some (seen line)) [] choice.ProgramsLine
programs version line = at_begin Programs version (seen line)

-- the start of a line of a transcript
transcript : (version : Version) (line : List ℕ)
    → HasCome Transcript version line 1 (Some (seen line)) [] choice.TranscriptLine
transcript version line = at_begin Transcript version (seen line)

-- the start of a line of a session
pub session : (version : Version) (line : List ℕ)
    → HasCome Session version line 1 (Some (seen line)) [] choice.SessionLine
session version line = at_begin Session version (seen line)

-- a word of neither kind goes on in no way
pub neither : (version : Version) (next : Choice) (word : List ℕ)
    → ((values : List Value) (then : Choice) → IsFixed version next word values then → ⊥)
    → ((values : List Value) (then : Choice) → IsOther version next word values then → ⊥)
    → (values : List Value) (then : Choice) → GoesOn version [] next word values then → ⊥
neither version next word fixed other values then (inl is) = fixed values then is
neither version next word fixed other values then (inr is) = other values then is

-- no line of programs begins with these words
no_line : (word : List ℕ) → ((values : List Value) (then : Choice) → IsFixed V1 choice.ProgramsLine word values then
    → ⊥) → ((values : List Value) (then : Choice) → IsFixed V1 choice.Command word values then → ⊥)
    → (values : List Value) (then : Choice) → GoesOn V1 [] choice.ProgramsLine word values then → ⊥
no_line word fixed command =
    neither V1 choice.ProgramsLine word fixed (λ values then is. command values choice.Equals is.0)

-- ---- programs

-- an empty line lacks its first word
pub empty : IsColumn Programs V1 (codes "") (choice_at 1 choice.ProgramsLine)
empty = stops_here (programs V1 (codes "")) refl (codes "") None tt refl
    (no_line (codes "") (λ values then. not_new (rows_in V1 choice.ProgramsLine) (codes "") values then refl)
    (λ values then. not_new (rows_in V1 choice.Command) (codes "") values then refl))

-- version 1 has no hangup
pub of_version_2 : IsColumn Programs V1 (codes "hangup eth 0") (choice_at 1 choice.ProgramsLine)
of_version_2 = stops_here (programs V1 (codes "hangup eth 0")) refl (codes "hangup") (Some (seen (codes "eth 0")))
    (search (rules, arith)) refl (no_line (codes "hangup")
    (λ values then. not_new (rows_in V1 choice.ProgramsLine) (codes "hangup") values then refl)
    (λ values then. not_new (rows_in V1 choice.Command) (codes "hangup") values then refl))

-- `dup` lacks a number
pub missing_word : IsColumn Programs V1 (codes "dup") (value_at 5 value.Number)
missing_word = ends_here (one_more (programs V1 (codes "dup")) refl (codes "dup") None (search (rules, arith)) refl
    (value.Number ∷ []) choice.End (inr (search rules, refl)) 5 refl) refl (λ ends. ends)

-- nothing may follow `exit`
pub word_too_many : IsColumn Programs V1 (codes "exit 0") (choice_at 6 choice.End)
word_too_many = stops_here (one_more (programs V1 (codes "exit 0")) refl (codes "exit") (Some (seen (codes "0")))
    (search (rules, arith)) refl [] choice.End (inr (search rules, refl)) 6 refl) refl (codes "0") None
    (search (rules, arith)) refl (neither V1 choice.End (codes "0") (λ values then is. is) (λ values then is. is))

-- between two spaces is an empty word
pub two_spaces : IsColumn Programs V1 (codes "clone  ip") (value_at 7 value.Name)
two_spaces = stops_here (one_more (programs V1 (codes "clone  ip")) refl (codes "clone") (Some (seen (codes " ip")))
    (search (rules, arith)) refl (value.Name ∷ []) choice.End (inr (search rules, refl)) 7 refl) refl (codes "")
    (Some (seen (codes "ip"))) tt refl (λ values then goes. absurd (cc goes.0))

-- version 2 has a hangup, which lacks a minor here
pub in_version_2 : IsColumn Programs V2 (codes "hangup eth") (value_at 12 value.Number)
in_version_2 =
    let hangup = one_more (programs V2 (codes "hangup eth")) refl (codes "hangup") (Some (seen (codes "eth")))
    (search (rules, arith)) refl (value.Name ∷ value.Number ∷ []) choice.End (inr (search rules, refl)) 8 refl in
    ends_here (one_more hangup refl (codes "eth") None (search (rules, arith)) refl (value.Number ∷ []) choice.End
    (refl, refl, refl) 12 refl) refl (λ ends. ends)

-- ---- transcripts

-- after `0 exit ` the line of an entry goes on in column 8, with the equals sign
behind_exit : (version : Version) (rest : List ℕ) → IsFixed version choice.Command (codes "exit") [] choice.Equals
    → HasCome Transcript version (codes "0 exit " ++ rest) 8 (Some (seen rest)) [] choice.Equals
unfolding digits
behind_exit version rest fixed = one_more (one_more (transcript version (codes "0 exit " ++ rest)) refl (codes "0")
    (Some (seen (codes "exit " ++ rest))) (search (rules, arith)) refl [] choice.Command
    (inr ((0, omega arith, refl), refl, refl)) 3 refl) refl (codes "exit") (Some (seen rest)) (search (rules, arith))
    refl [] choice.Equals (inl fixed) 8 refl

-- after an entry's command the sign is expected
pub no_equals : IsColumn Transcript V2 (codes "0 exit done") (choice_at 8 choice.Equals)
no_equals = stops_here (behind_exit V2 (codes "done") (search rules)) refl (codes "done") None (search (rules, arith))
    refl (neither V2 choice.Equals (codes "done")
    (λ values then. not_new (rows_in V2 choice.Equals) (codes "done") values then refl) (λ values then is. is))

-- after `0 exit = ` the line of an entry goes on in column 10, with a reply
behind_equals : (rest : List ℕ)
    → HasCome Transcript V1 (codes "0 exit = " ++ rest) 10 (Some (seen rest)) [] choice.Reply
behind_equals rest = one_more (behind_exit V1 (codes "= " ++ rest) (search rules)) refl (codes "=") (Some (seen rest))
    (search (rules, arith)) refl [] choice.Reply (inl (search rules)) 10 refl

-- after `EBADF` its own reason is expected
pub other_cause : IsColumn Transcript V1 (codes "0 exit = EBADF full") (choice_at 16 choice.BadDescriptor)
other_cause = stops_here (one_more (behind_equals (codes "EBADF full")) refl (codes "EBADF")
    (Some (seen (codes "full"))) (search (rules, arith)) refl [] choice.BadDescriptor (inl (search rules)) 16 refl)
    refl (codes "full") None (search (rules, arith)) refl (neither V1 choice.BadDescriptor (codes "full")
    (λ values then. not_new (rows_in V1 choice.BadDescriptor) (codes "full") values then refl) (λ values then is. is))

-- the word `7` may be a serial, and more serials may follow
seven : GoesOn V1 [] choice.Serials (codes "7") [] choice.Serials
unfolding digits
seven = inr ((7, omega arith, refl), refl, refl)

-- the word `5` may be a serial, and more serials may follow
five : GoesOn V1 [] choice.Serials (codes "5") [] choice.Serials
unfolding digits
five = inr ((5, omega arith, refl), refl, refl)

-- `done` takes any number of serials
pub serials : IsWhole Transcript V1 (codes "0 exit = done 7 5")
serials =
    let done = one_more (behind_equals (codes "done 7 5")) refl (codes "done") (Some (seen (codes "7 5")))
    (search (rules, arith)) refl [] choice.Serials (inl (search rules)) 15 refl in
    let first = one_more done refl (codes "7") (Some (seen (codes "5"))) (search (rules, arith)) refl [] choice.Serials
    seven 17 refl in
    whole_here (one_more first refl (codes "5") None (search (rules, arith)) refl [] choice.Serials five 19 refl) refl tt

-- ---- sessions

-- `wirte` is no command
pub misspelt : IsColumn Session V2 (codes "0 wirte 0 5 aa") (choice_at 3 choice.SessionCommand)
unfolding digits
misspelt = stops_here (one_more (session V2 (codes "0 wirte 0 5 aa")) refl (codes "0")
    (Some (seen (codes "wirte 0 5 aa"))) (search (rules, arith)) refl [] choice.SessionCommand
    (inr ((0, omega arith, refl), refl, refl)) 3 refl) refl (codes "wirte") (Some (seen (codes "0 5 aa")))
    (search (rules, arith)) refl (neither V2 choice.SessionCommand (codes "wirte") (λ values then is. is)
    (λ values then is. not_new (rows_in V2 choice.Command) (codes "wirte") values choice.Equals refl is.0))

-- nothing may follow the name after `clone`, so a reply may not
pub reply_too_many : IsColumn Session V1 (codes "1 clone ip = fd 0 0") (choice_at 12 choice.End)
unfolding digits
reply_too_many =
    let process = one_more (session V1 (codes "1 clone ip = fd 0 0")) refl (codes "1")
    (Some (seen (codes "clone ip = fd 0 0"))) (search (rules, arith)) refl [] choice.SessionCommand
    (inr ((1, omega arith, refl), refl, refl)) 3 refl in
    let clone = one_more process refl (codes "clone") (Some (seen (codes "ip = fd 0 0"))) (search (rules, arith)) refl
    (value.Name ∷ []) choice.End (inr (search rules, refl)) 9 refl in
    let name = one_more clone refl (codes "ip") (Some (seen (codes "= fd 0 0"))) (search (rules, arith)) refl []
    choice.End (refl, refl, refl) 12 refl in
    stops_here name refl (codes "=") (Some (seen (codes "fd 0 0"))) (search (rules, arith)) refl
    (neither V1 choice.End (codes "=") (λ values then is. is) (λ values then is. is))

-- after `trace` a word is missing
pub no_switch : IsColumn Session V1 (codes "trace") (choice_at 7 choice.Switch)
no_switch = ends_here (one_more (session V1 (codes "trace")) refl (codes "trace") None (search (rules, arith)) refl []
    choice.Switch (inl (search rules)) 7 refl) refl (λ ends. ends)

pub ruleset worked_columns = (
  empty,
  missing_word,
  word_too_many,
  two_spaces,
  of_version_2,
  in_version_2,
  no_equals,
  other_cause,
  serials,
  misspelt,
  reply_too_many,
  no_switch,
)
