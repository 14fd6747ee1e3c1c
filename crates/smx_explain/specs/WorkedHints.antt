-- Worked words that differ little from a verb, typed in by hand.
use Rattle.std.specs.Prelude.{◌≡◌, true, false, [], ◌∷◌, Some, None, ◌++◌, codes, refl}
use Rattle.std.specs.List.{list_all, list_any}
use Rattle.smx_types.specs.declared.version.Version.TheVariants.{V1, V2}
use Rattle.smx_explain.specs.Hints.{is_capital_hex, is_near, meant}
use Rattle.smx_explain.specs.ColumnWords.{explanation_text}
use Rattle.smx_explain.specs.WorkedColumns.{choice_at, value_at}
use Rattle.smx_explain.specs.declared.hints.Hint.TheVariants.{LaterVersion, SmallLetters}
use Rattle.smx_explain.specs.declared.kinds.Choice.TheVariants.{ProgramsLine, Command, Equals, Reply, SessionLine}
use Rattle.smx_explain.specs.declared.kinds.Choice.TheVariants.{Switch, End}
use Rattle.smx_explain.specs.declared.kinds.Value.TheVariants.{Bytes}
use Rattle.std.specs.Fmt.{digits}

-- one edit turns each of these words into `write`: two neighbours are exchanged, or a letter is replaced, added or left
-- out, also at the end
pub near_write : list_all (λ word. is_near word (codes "write")) (codes "wirte" ∷ codes "wriet" ∷ codes "wride"
    ∷ codes "writte" ∷ codes "writes" ∷ codes "rite" ∷ codes "writ" ∷ []) ≡ true
near_write = refl

-- two edits are too many, and so is the exchange of letters that are not neighbours
pub not_near_write : list_any (λ word. is_near word (codes "write")) (codes "rites" ∷ codes "eritw" ∷ []) ≡ false
not_near_write = refl

-- a word of one letter is near one of two
pub of_one_letter : is_near (codes "i") (codes "id") ≡ true
of_one_letter = refl

-- no word is meant by an empty word
pub no_word : meant V1 Equals [] ≡ None
no_word = refl

-- a colon in place of the equals sign between a command and its reply is a misspelt equals sign
pub sign_meant : meant V1 Equals (codes ":") ≡ Some (codes "=")
sign_meant = refl

-- a line of programs may begin with a command
pub command_meant : meant V1 ProgramsLine (codes "wirte") ≡ Some (codes "write")
command_meant = refl

-- or with a word of its own
pub line_meant : meant V1 ProgramsLine (codes "drivr") ≡ Some (codes "driver")
line_meant = refl

-- a letter of a longer word is left out
pub command_left_out : meant V1 Command (codes "punlik") ≡ Some (codes "punlink")
command_left_out = refl

-- version 1 has no hangup
pub none_meant : meant V1 Command (codes "hangpu") ≡ None
none_meant = refl

-- version 2 has
pub hangup_meant : meant V2 Command (codes "hangpu") ≡ Some (codes "hangup")
hangup_meant = refl

-- replies too
pub reply_meant : meant V1 Reply (codes "EINVL") ≡ Some (codes "EINVAL")
reply_meant = refl

-- hex digits, some of them with capital letters
pub capitals : list_all is_capital_hex (codes "C0FFEE" ∷ codes "AF09af" ∷ []) ≡ true
capitals = refl

-- small letters are right, and other letters are no hex digits
pub no_capitals : list_any is_capital_hex (codes "c0ffee" ∷ codes "COFFEE" ∷ codes "AG" ∷ []) ≡ false
no_capitals = refl

-- a request of a session
pub request_meant : meant V2 SessionLine (codes "shwo") ≡ Some (codes "show")
request_meant = refl

-- whether to trace
pub switch_meant : meant V1 Switch (codes "offf") ≡ Some (codes "off")
switch_meant = refl

-- two words are near: the line's own word comes first
pub first_meant : meant V1 ProgramsLine (codes "ead") ≡ Some (codes "end")
first_meant = refl

-- the words for it
pub later_words : explanation_text (choice_at 3 Command) 13 (Some LaterVersion)
    ≡ codes "  column 3: a command, or in version 2 'hangup' is wanted\n"
    ++ codes "  version 2 has this word, and version 1 has not\n"
unfolding digits
later_words = refl

-- the words for capital letters
pub capital_words : explanation_text (value_at 13 Bytes) 14 (Some SmallLetters)
    ≡ codes "  column 13: hex digits in pairs, or '-', is wanted\n  the letters of hex digits are small, 'a' to 'f'\n"
unfolding digits
capital_words = refl

-- the words for a space at the end of a line
pub space_words_shown : explanation_text (choice_at 9 End) 8 None
    ≡ codes "  column 9: the end of the line is wanted, with no space before it\n"
unfolding digits
space_words_shown = refl
