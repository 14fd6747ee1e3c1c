-- Lines that ask for the configuration or the end, lines that are calls, and lines that are neither.
use Rattle.std.proofs.Common.{◌≡◌, ◌∙◌, ℕ, ◌<◌, ◌^◌, Bool, true, false, List, [], ◌∷◌, ◌++◌, length, refl, ap}
use Rattle.std.proofs.Common.{append-nil, append_assoc, arith, inl, inr, rules, subst, sym}
use Rattle.std.proofs.lemmas.Fmt.{decimal_nonempty, digits_decimal}
use Rattle.std.proofs.lemmas.List.{append_cancel_right}
use Rattle.std.specs.Char.{is_ascii_digit}
use Rattle.std.specs.Fmt.{decimal}
use Rattle.std.specs.Prelude.{◌||◌, bytes_eq, codes}
use Rattle.std.specs.Str.{all_ascii_digits}
use Rattle.smx_types.specs.declared.command.Command.{Command}
use Rattle.smx_types.specs.declared.version.Version.{Version}
use Rattle.smx_words.proofs.NumberLemmas.{own}
use Rattle.smx_words.specs.LineReading.{IsNoCallLine}
use Rattle.smx_words.specs.Spellable.{FitsCall}
use Rattle.smx_words.specs.Spelling.{call_words, command_words}
use Rattle.smx_words.specs.Words.{SPACE, line_of}
use Rattle.smx_explain.specs.Columns.{AreParts, IsWhole, spaced}
use Rattle.smx_explain.specs.declared.kinds.LineKind.TheVariants.{Session}
use Rattle.smx_live.specs.Turns.{AsksForNeither, AsksToShow, IsRefusedFor}
use Rattle.smx_live.specs.declared.talk.TurnFault.TheVariants.{NoCommand}

-- ---- calls

-- whether a line begins with a digit
abbrev pub begins_digit : List ℕ → Bool
begins_digit [] = false
begins_digit (b ∷ rest) = is_ascii_digit b

-- the line of a call begins with a digit, that of its process
call_digit : (c : ℕ × Command) → FitsCall c → begins_digit (line_of (call_words c)) ≡ true
call_digit c fits = by_word (decimal c.0) (command_words c.1) refl where
  small : c.0 < 2 ^ 64
  small = omega (arith, fits.0)

  first : (d : ℕ) (w : List ℕ) → all_ascii_digits (d ∷ w) ≡ true → is_ascii_digit d ≡ true
  first d w digits = search rules

  digits : (w : List ℕ) → w ≡ decimal c.0 → all_ascii_digits w ≡ true
  digits w same = subst (λ (x : List ℕ). all_ascii_digits x ≡ true) (sym same) (digits_decimal own c.0 small)

  by_word : (w : List ℕ) (words : List (List ℕ)) → w ≡ decimal c.0 → begins_digit (line_of (w ∷ words)) ≡ true
  by_word [] words same = absurd (omega (arith, decimal_nonempty c.0 small, ap (λ (x : List ℕ). length x) same))
  by_word (d ∷ w) [] same = first d w (digits (d ∷ w) same)
  by_word (d ∷ w) (v ∷ words) same = first d w (digits (d ∷ w) same)

-- a line that does not begin with a digit is not a call
pub no_call_line : (version : Version) (line : List ℕ) → begins_digit line ≡ false → IsNoCallLine version line
no_call_line version line none c fits is =
    let first : begins_digit line ≡ true = ap begins_digit is ∙ call_digit c fits.0 in absurd (cc (none, first))

-- ---- requests

-- a line that asks for the configuration does not begin with a digit
pub no_digit_shows : (line : List ℕ) → AsksToShow line → begins_digit line ≡ false
no_digit_shows line (inl is) = rw is refl
no_digit_shows line (inr (inl is)) = rw is refl
no_digit_shows line (inr (inr (inl is))) = rw is refl
no_digit_shows line (inr (inr (inr is))) = rw is refl

-- whether a line asks for the configuration
abbrev pub shows : List ℕ → Bool
shows line = bytes_eq line [] || (bytes_eq line (codes "show") || (bytes_eq line (codes "trace on")
    || bytes_eq line (codes "trace off")))

-- a line for which this test fails does not ask for the configuration
pub shows_nothing : (line : List ℕ) → shows line ≡ false → AsksToShow line → ⊥
shows_nothing line other (inl is) = absurd (cc (rw is at other))
shows_nothing line other (inr (inl is)) = absurd (cc (rw is at other))
shows_nothing line other (inr (inr (inl is))) = absurd (cc (rw is at other))
shows_nothing line other (inr (inr (inr is))) = absurd (cc (rw is at other))

-- a line that is neither such a line nor `end` asks for neither
pub neither : (line : List ℕ) → shows line ≡ false → bytes_eq line (codes "end") ≡ false → AsksForNeither line
neither line other last = (shows_nothing line other, λ is. absurd (cc (rw is at last)))

-- ---- lines that are not commands

-- some words, each followed by a space, are their line and a space
one_line : (word : List ℕ) (words : List (List ℕ)) → spaced (word ∷ words) ≡ line_of (word ∷ words) ++ SPACE ∷ []
one_line word [] = append-nil (word ++ SPACE ∷ [])
one_line word (next ∷ words) = rw (one_line next words) (simp append_assoc)

-- a line whose parts are some words is the line of these words
is_line : (line : List ℕ) (parts : List (List ℕ)) (word : List ℕ) (words : List (List ℕ)) → AreParts line parts
    → parts ≡ word ∷ words → line ≡ line_of (word ∷ words)
is_line line parts word words are same =
    append_cancel_right line (line_of (word ∷ words)) (SPACE ∷ [])
    (are.1 ∙ ap spaced same ∙ one_line word words)

-- a line that is refused because it is not a command is not a request
pub no_request : (version : Version) (count : ℕ) (line : List ℕ) → IsRefusedFor version count line NoCommand
    → IsWhole Session version line → ⊥
no_request version count line refused whole = elim whole.2 [
  | inl show ↦ refused.0.0 (inr (inl (is_line line parts (codes "show") [] are show)))
  | inr (inl on) ↦ refused.0.0 (inr (inr (inl (is_line line parts (codes "trace") (codes "on" ∷ []) are on))))
  | inr (inr (inl off)) ↦ refused.0.0 (inr (inr (inr (is_line line parts (codes "trace") (codes "off" ∷ []) are off))))
  | inr (inr (inr (inl end))) ↦ refused.0.1 (is_line line parts (codes "end") [] are end)
  | inr (inr (inr (inr call))) ↦ refused.1 call.0 call.1
      (is_line line parts (decimal call.0.0) (command_words call.0.1) are call.2)
] where
  parts : List (List ℕ)
  parts = whole.0

  are : AreParts line parts
  are = whole.1
