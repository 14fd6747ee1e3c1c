-- The words of values are visible bytes, and only an entry has an equals sign.
use Rattle.smx_words.proofs.Common.{◌≡◌, ◌≢◌, ℕ, ◌<◌, ◌≤◌, Bool, true, false, ◌&&◌, List, [], ◌∷◌, length, map, arith}
use Rattle.smx_words.proofs.Common.{rules, list_all, AllByRecursion, decimal, is_ascii_digit, and_parts, nat_tests}
use Rattle.smx_words.proofs.Common.{Command, Fault, Reply, hex_word, is_digit, FitsBytes, FitsName, FitsNumber}
use Rattle.smx_words.proofs.Common.{FitsReply, command_words, fault_words, reply_words, EQUALS, IsFree, IsWord}
use Rattle.std.proofs.lemmas.Fmt.{decimal_nonempty}
use Rattle.hex.specs.Hex.{encode_lower}
use Rattle.smx_types.specs.Names.{is_name_byte}
use Rattle.smx_types.specs.declared.command.Command.TheVariants as command
use Rattle.smx_types.specs.declared.command.Sides.{Sides}
use Rattle.smx_types.specs.declared.command.Sides.TheVariants as sides
use Rattle.smx_types.specs.declared.command.Which.{Which}
use Rattle.smx_types.specs.declared.command.Which.TheVariants as which
use Rattle.smx_types.specs.declared.reply.Fault.TheVariants as fault
use Rattle.smx_types.specs.declared.reply.Reply.TheVariants as reply
use Rattle.smx_words.specs.Spellable.{FitsCommand, FitsWhich}
use Rattle.smx_words.specs.Spelling.{which_word, sides_word}
use Rattle.smx_words.proofs.HexLemmas.{encoded_digits, encoded_long}
use Rattle.smx_words.proofs.LineLemmas.{all_weaker}
use Rattle.smx_words.proofs.NumberLemmas.{decimal_digits}

-- a visible byte other than an equals sign
abbrev pub IsPlainByte : ℕ → Type 0
IsPlainByte b = (0x21 ≤ b) × (b ≤ 0x7E) × (b ≢ EQUALS)

-- one or more visible bytes, none of which is an equals sign
abbrev pub IsPlain : List ℕ → Type 0
IsPlain w = (0 < length w) × AllByRecursion IsPlainByte w

-- bytes that pass a test are plain, if the test passes only visible bytes other than the equals sign
all_plain : (test : ℕ → Bool) → ((b : ℕ) → test b ≡ true → IsPlainByte b) → (w : List ℕ) → list_all test w ≡ true
    → AllByRecursion IsPlainByte w
all_plain test plain [] h = tt
all_plain test plain (b ∷ w) h = let parts = and_parts (test b) (list_all test w) h in
    (plain b parts.0, all_plain test plain w parts.1)

-- the word of a number is plain
pub number_plain : (n : ℕ) → FitsNumber n → IsPlain (decimal n)
number_plain n fits =
    (decimal_nonempty n (omega arith), all_plain is_ascii_digit plain (decimal n) (decimal_digits n fits)) where
      plain : (b : ℕ) → is_ascii_digit b ≡ true → IsPlainByte b
      plain b h = (grind (arith, nat_tests), grind (arith, nat_tests), λ e. grind (arith, nat_tests))

-- if three tests hold, the last of them holds
and_right : (a b c : Bool) → (a && (b && c)) ≡ true → c ≡ true
and_right true true c h = h
and_right true false c h = absurd cc
and_right false b c h = absurd cc

-- a driver's name is plain
pub name_plain : (w : List ℕ) → FitsName w → IsPlain w
name_plain [] h = absurd (cc h)
name_plain (b ∷ w) h = (omega arith, all_plain is_name_byte plain (b ∷ w) (and_right _ _ _ h)) where
  plain : (b : ℕ) → is_name_byte b ≡ true → IsPlainByte b
  plain b h = (grind (arith, nat_tests), grind (arith, nat_tests), λ e. grind (arith, nat_tests))

-- the word of an id, or of all, is plain
pub which_plain : (x : Which) → FitsWhich x → IsPlain (which_word x)
which_plain (which.Id id) fits = number_plain id fits
which_plain which.All fits = search rules

-- the word for the sides of a flush is plain
pub sides_plain : (s : Sides) → IsPlain (sides_word s)
sides_plain sides.R = search rules
sides_plain sides.W = search rules
sides_plain sides.RW = search rules

-- the word of some bytes is plain
pub hex_plain : (bs : List ℕ) → FitsBytes bs → IsPlain (hex_word bs)
hex_plain [] fits = search rules
hex_plain (b ∷ bs) fits = (
  omega (arith, encoded_long (b ∷ bs)),
  all_plain is_digit plain (encode_lower (b ∷ bs)) (encoded_digits (b ∷ bs) fits),
) where
  plain : (b : ℕ) → is_digit b ≡ true → IsPlainByte b
  plain b h = (grind (arith, nat_tests), grind (arith, nat_tests), λ e. grind (arith, nat_tests))

-- ---- commands and replies

-- the words of numbers are plain
numbers_plain : (ns : List ℕ) → AllByRecursion FitsNumber ns → AllByRecursion IsPlain (map decimal ns)
numbers_plain [] h = tt
numbers_plain (n ∷ ns) h = (number_plain n h.0, numbers_plain ns h.1)

ruleset plain_word_of = (number_plain, numbers_plain, name_plain, which_plain, sides_plain, hex_plain)

-- each word of a command is plain
pub command_plain : (c : Command) → FitsCommand c → AllByRecursion IsPlain (command_words c)
command_plain command.CloseAll fits = search rules
command_plain c fits = search (rules, plain_word_of)

-- a command has at least one word
pub some_command : (c : Command) → 0 < length (command_words c)
some_command command.CloseAll = omega arith
some_command c = omega arith

-- a fault has words, and each of them is plain
pub fault_plain : (f : Fault) → (0 < length (fault_words f)) × AllByRecursion IsPlain (fault_words f)
fault_plain fault.BadDescriptor = search rules
fault_plain f = search rules

-- each word of a reply is plain
pub reply_plain : (r : Reply) → FitsReply r → AllByRecursion IsPlain (reply_words r)
reply_plain (reply.Fault f) fits = (fault_plain f).1
reply_plain r fits = search (rules, plain_word_of)

-- a reply has at least one word
pub some_reply : (r : Reply) → 0 < length (reply_words r)
some_reply (reply.Fault f) = (fault_plain f).0
some_reply r = omega arith

-- ---- plain bytes are words, and their lines contain no equals sign

-- plain bytes are a word
pub plain_word : (w : List ℕ) → IsPlain w → IsWord w
plain_word w h = (h.0, all_weaker (λ b k. (k.0, k.1)) w h.1)

-- lists of plain bytes are words
pub plain_words : (ws : List (List ℕ)) → AllByRecursion IsPlain ws → AllByRecursion IsWord ws
plain_words = all_weaker plain_word

-- lists of plain bytes contain no equals sign
pub plain_words_free : (ws : List (List ℕ)) → AllByRecursion IsPlain ws → AllByRecursion (IsFree EQUALS) ws
plain_words_free = all_weaker (λ w h. all_weaker (λ b k. k.2) w h.1)
