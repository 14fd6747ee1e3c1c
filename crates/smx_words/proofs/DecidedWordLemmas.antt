-- Each number, name, list of bytes, id and value of an enum has a word of its own.
use Rattle.smx_words.proofs.Common.{◌≡◌, ℕ, ◌<◌, ◌≤◌, ◌^◌, Bool, true, false, cond, List, [], ◌∷◌, refl, ap, ◌∙◌}
use Rattle.smx_words.proofs.Common.{arith, rules, decimal, bytes_eq, digits_value, hex_word, FitsAlways, FitsBytes}
use Rattle.smx_words.proofs.Common.{FitsName, FitsNumber, FitsProcess, IsWord}
use Rattle.std.proofs.Common.{◌%◌, Result, Ok, Err}
use Rattle.std.specs.Prelude.{codes}
use Rattle.std.specs.Str.{all_ascii_digits}
use Rattle.std.proofs.Math.Nat.{mod-eq_of_lt, mod-lt}
use Rattle.std.proofs.lemmas.Fmt.{digits_value-decimal}
use Rattle.hex.specs.Hex.{decode_of}
use Rattle.hex.specs.declared.error.FromHexError.{FromHexError}
use Rattle.hex.proofs.HexLemmas.{decode_of-encode_lower, decode_of-ok}
use Rattle.smx_types.specs.Names.{is_name}
use Rattle.smx_types.specs.declared.command.Sides.{Sides}
use Rattle.smx_types.specs.declared.command.Sides.TheVariants as sides
use Rattle.smx_types.specs.declared.command.Which.{Which}
use Rattle.smx_types.specs.declared.command.Which.TheVariants as which
use Rattle.smx_types.specs.declared.driver.DriverKind.{DriverKind}
use Rattle.smx_types.specs.declared.driver.DriverKind.TheVariants as kind
use Rattle.smx_types.specs.declared.link.LinkKind.{LinkKind}
use Rattle.smx_types.specs.declared.link.LinkKind.TheVariants as link
use Rattle.smx_types.specs.declared.stream.Side.{Side}
use Rattle.smx_types.specs.declared.stream.Side.TheVariants as side
use Rattle.smx_words.specs.Spellable.{FitsWhich}
use Rattle.smx_words.specs.Spelling.{kind_word, link_kind_word, side_word, sides_word, which_word}
use Rattle.smx_words.proofs.DecidedLemmas.{HasWord, first_of_these}
use Rattle.smx_words.proofs.HexLemmas.{are_bytes, fits_all}
use Rattle.smx_words.proofs.NumberLemmas.{decimal_digits, own}
use Rattle.smx_words.proofs.PlainLemmas.{hex_plain, name_plain, number_plain, plain_word, which_plain}

-- each number below a limit has a word of its own
abbrev below : (limit : ℕ) → 0 < limit → limit ≤ 2 ^ 32 → HasWord (λ n. n < limit) decimal
below limit some le = record {
  guess = λ w. digits_value 10 w % limit;
  fits = λ w. mod-lt (digits_value 10 w) some;
  again = λ n h. ap (λ (m : ℕ). m % limit) (digits_value-decimal own n (omega (arith, le))) ∙ mod-eq_of_lt h;
  are_words = λ n h. plain_word (decimal n) (number_plain n (omega (arith, le)));
}

-- each number of 32 bits has a word of its own
unfoldable pub number : HasWord FitsNumber decimal
number = below (2 ^ 32) (omega arith) (omega arith)

-- each process has a word of its own
unfoldable pub process : HasWord FitsProcess decimal
process = below 64 (omega arith) (omega arith)

-- each driver's name is a word
unfoldable pub name : HasWord FitsName (λ (w : List ℕ). w)
name = record {
  guess = λ w. cond (is_name w) w (codes "a");
  fits = λ w. by_test w (is_name w) refl;
  again = λ w h. rw h refl;
  are_words = λ w h. plain_word w (name_plain w h);
} where
  by_test : (w : List ℕ) (t : Bool) → is_name w ≡ t → FitsName (cond t w (codes "a"))
  by_test w true e = e
  by_test w false e = refl

-- the bytes of a result, or no bytes
abbrev bytes_in : Result (List ℕ) FromHexError → List ℕ
bytes_in (Ok bytes) = bytes
bytes_in (Err e) = []

-- each list of bytes has a word of its own
unfoldable pub bytes : HasWord FitsBytes hex_word
bytes = record {
  guess = λ w. bytes_in (decode_of w);
  fits = λ w. by_result w (decode_of w) refl;
  again = again;
  are_words = λ bs h. plain_word (hex_word bs) (hex_plain bs h);
} where
  by_result : (w : List ℕ) (r : Result (List ℕ) FromHexError) → decode_of w ≡ r → FitsBytes (bytes_in r)
  by_result w (Ok bs) e = fits_all bs (decode_of-ok w bs e).3
  by_result w (Err f) e = tt

  again : (bs : List ℕ) → FitsBytes bs → bytes_in (decode_of (hex_word bs)) ≡ bs
  again [] h = refl
  again (b ∷ bs) h = ap bytes_in (decode_of-encode_lower (b ∷ bs) (are_bytes (b ∷ bs) h))

-- each id has a word of its own, and so have all ids together
unfoldable pub id_or_all : HasWord FitsWhich which_word
id_or_all = record {
  guess = λ w. cond (all_ascii_digits w) (which.Id (number.guess w)) which.All;
  fits = λ w. by_test w (all_ascii_digits w);
  again = again;
  are_words = λ x h. plain_word (which_word x) (which_plain x h);
} where
  by_test : (w : List ℕ) (t : Bool) → FitsWhich (cond t (which.Id (number.guess w)) which.All)
  by_test w true = number.fits w
  by_test w false = tt

  again : (x : Which) → FitsWhich x
      → cond (all_ascii_digits (which_word x)) (which.Id (number.guess (which_word x))) which.All ≡ x
  again (which.Id n) h = rw (decimal_digits n h) (ap which.Id (number.again n h))
  again which.All h = refl

-- the value is found by its word, which is a word
abbrev pub IsFound : {X : Type 0} → (X → List ℕ) → List X → X → X → Type 0
IsFound word all other x = (first_of_these bytes_eq word all other (word x) ≡ x) × IsWord (word x)

-- values that are found among a few by their words
abbrev pub few : {X : Type 0} {word : X → List ℕ} (all : List X) (other : X) → ((x : X) → IsFound word all other x)
    → HasWord FitsAlways word
few {word = word} all other found = record {
  guess = first_of_these bytes_eq word all other;
  fits = λ w. tt;
  again = λ x h. (found x).0;
  are_words = λ x h. (found x).1;
}

-- each kind of driver has a word of its own
pub driver_kind : HasWord FitsAlways kind_word
driver_kind = few (kind.Leaf ∷ []) kind.Mux found where
  found : (k : DriverKind) → IsFound kind_word (kind.Leaf ∷ []) kind.Mux k
  found kind.Leaf = search rules
  found k = search rules

-- each kind of link has a word of its own
pub link_kind : HasWord FitsAlways link_kind_word
link_kind = few (link.Ordinary ∷ []) link.Persistent found where
  found : (k : LinkKind) → IsFound link_kind_word (link.Ordinary ∷ []) link.Persistent k
  found link.Ordinary = search rules
  found k = search rules

-- each side of a stream has a word of its own
pub stream_side : HasWord FitsAlways side_word
stream_side = few (side.Write ∷ []) side.Read found where
  found : (s : Side) → IsFound side_word (side.Write ∷ []) side.Read s
  found side.Write = search rules
  found s = search rules

-- each choice of sides of a flush has a word of its own
unfoldable pub flush_sides : HasWord FitsAlways sides_word
flush_sides = few (sides.R ∷ sides.W ∷ []) sides.RW found where
  found : (s : Sides) → IsFound sides_word (sides.R ∷ sides.W ∷ []) sides.RW s
  found sides.R = search rules
  found s = search rules
