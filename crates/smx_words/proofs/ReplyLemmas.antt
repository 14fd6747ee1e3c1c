-- The serials of a reply, and replies without a verb.
use Rattle.smx_words.proofs.Common.{◌≡◌, ◌≢◌, Bool, ℕ, List, [], ◌∷◌, ◌++◌, map, Option, Some, None, refl, sym, ap}
use Rattle.smx_words.proofs.Common.{◌∙◌, append_assoc, arith, AllByRecursion, decimal, Fault, Reply, IsReadAs}
use Rattle.smx_words.proofs.Common.{FitsAlways, FitsNumber, FitsReply, fault_words, reply_words, reply_verb_word}
use Rattle.smx_words.proofs.Common.{SPACE, line_of, V1}
use Rattle.std.specs.Prelude.{codes, is_some, MatchBool, MatchOption}
use Rattle.smx_types.specs.declared.reply.Reply.TheVariants as reply
use Rattle.smx_words.specs.declared.reading.verb.ReplyVerb.{ReplyVerb}
use Rattle.smx_words.specs.declared.reading.verb.ReplyVerb.TheVariants as reply_verb
use Rattle.smx_words.specs.LineReading.{IsFoundIn, IsLineOf}
use Rattle.smx_words.specs.Spellable.{FitsReplyIn, FitsSerials}
use Rattle.smx_words.proofs.CutLemmas.{apart, no_space_in}
use Rattle.smx_words.proofs.LineLemmas.{all_append}
use Rattle.smx_words.proofs.NumberLemmas.{number_free, same_number}

-- the words of these serials, of which there is at least one
abbrev pub Spell : List ℕ → List ℕ → Type 0
Spell line serials = FitsSerials serials × (line ≡ line_of (map decimal serials))

-- a line is the words of the serials `before` and then of the serials of `rest`, and of no others
pub record AreThen (line before rest : List ℕ) : Type 0 where
  pub fit : AllByRecursion FitsNumber before
  pub then : (more : List ℕ) → Spell rest more → Spell line (before ++ more)
  pub only : (all : List ℕ) → Spell line all → (more : List ℕ) × (all ≡ before ++ more) × Spell rest more

-- before the first serial, the rest of a line is the whole line
pub at_first : (line : List ℕ) → AreThen line [] line
at_first line = record { fit = tt; then = λ more h. h; only = λ all h. (all, refl, h) }

-- the word of a number is not that of another number followed by a space
no_space : (m n : ℕ) (after : List ℕ) → FitsNumber m → decimal n ++ SPACE ∷ after ≡ decimal m → ⊥
no_space m n after fits_m bad = no_space_in (decimal n) after (decimal m) (number_free m fits_m) bad

-- a serial and a space at the start of the rest are one more serial, and the bytes after the space are the new rest
pub one_more : (line before rest after : List ℕ) (n : ℕ) → AreThen line before rest → FitsNumber n
    → rest ≡ decimal n ++ SPACE ∷ after → AreThen line (before ++ n ∷ []) after
one_more line before rest after n h fits is =
    record { fit = all_append FitsNumber before (n ∷ []) h.fit (fits, tt); then = then; only = only } where
      then : (more : List ℕ) → Spell after more → Spell line ((before ++ n ∷ []) ++ more)
      then [] s = absurd (omega (arith, s.0.0))
      then (m ∷ more) s =
          let all =
          h.then (n ∷ m ∷ more) (
            (omega arith, (fits, s.0.1)),
            is ∙ ap (λ (x : List ℕ). decimal n ++ SPACE ∷ x) s.1,
          ) in
          rw (append_assoc before (n ∷ []) (m ∷ more)) all

      only : (all : List ℕ) → Spell line all → (more : List ℕ) × (all ≡ (before ++ n ∷ []) ++ more) × Spell after more
      only all s = let o = h.only all s in by_rest o.0 o.1 o.2 where
        by_rest : (more : List ℕ) → all ≡ before ++ more → Spell rest more
            → (more : List ℕ) × (all ≡ (before ++ n ∷ []) ++ more) × Spell after more
        by_rest [] e t = absurd (omega (arith, t.0.0))
        by_rest (m ∷ []) e t = absurd (no_space m n after t.0.1.0 (sym is ∙ t.1))
        by_rest (m ∷ k ∷ more) e t =
            let words =
            apart SPACE (decimal m) (decimal n) (line_of (map decimal (k ∷ more))) after
            (number_free m t.0.1.0) (number_free n fits) (sym t.1 ∙ is) in
            let same = same_number m n t.0.1.0 fits words.0 in (
              k ∷ more,
              e ∙ ap (λ (x : ℕ). before ++ x ∷ k ∷ more) same ∙ sym (append_assoc before (n ∷ []) (k ∷ more)),
              ((omega arith, t.0.1.1), sym words.1),
            )

-- the serials of the rest are the last of the line; if the rest has none, the line has none
went_on : (line before rest : List ℕ) → AreThen line before rest → IsLineOf FitsSerials (map decimal) rest
    → IsLineOf FitsSerials (map decimal) line
went_on line before rest h more = let all = h.then more.0 (more.1, more.2) in (before ++ more.0, all.0, all.1)

-- if the rest is not the words of serials, neither is the line
pub none_left : (line before rest : List ℕ) → AreThen line before rest
    → ((all : List ℕ) → FitsSerials all → rest ≢ line_of (map decimal all))
    → (all : List ℕ) → FitsSerials all → line ≢ line_of (map decimal all)
none_left line before rest h none all fits e = let o = h.only all (fits, e) in none o.0 o.2.0 o.2.1

-- a rest that is the word of one serial is the line of some serials
last_is : (rest : List ℕ) (n : ℕ) → FitsNumber n → rest ≡ decimal n → IsLineOf FitsSerials (map decimal) rest
last_is rest n fits is = (n ∷ [], (omega arith, (fits, tt)), is)

-- a rest that is no serial, and starts with no serial and space, is the line of no serials
pub last_is_none : (rest : List ℕ) → ((n : ℕ) (after : List ℕ) → FitsNumber n → rest ≢ decimal n ++ SPACE ∷ after)
    → ((n : ℕ) → FitsNumber n → rest ≢ decimal n)
    → (all : List ℕ) → FitsSerials all → rest ≢ line_of (map decimal all)
last_is_none rest alone one [] fits e = omega (arith, fits.0)
last_is_none rest alone one (m ∷ []) fits e = one m fits.1.0 e
last_is_none rest alone one (m ∷ k ∷ more) fits e = alone m (line_of (map decimal (k ∷ more))) fits.1.0 e

-- at the last word of a line, the line is the words of serials exactly if that word is a serial
pub tells_last : (line : List ℕ) (before : List ℕ) (rest : List ℕ) (o : Option ℕ) (r : Bool) → r ≡ is_some o
    → AreThen line before rest
    → ((n : ℕ) (after : List ℕ) → FitsNumber n → rest ≢ decimal n ++ SPACE ∷ after)
    → IsFoundIn FitsNumber decimal rest o
    → MatchBool r (IsLineOf FitsSerials (map decimal) line) ((all : List ℕ) → FitsSerials all
    → line ≢ line_of (map decimal all))
tells_last line before rest (Some n) r test h alone found =
    rw test (went_on line before rest h (last_is rest n found.0 found.1))
tells_last line before rest None r test h alone found =
    rw test (none_left line before rest h (last_is_none rest alone found))

-- `done` followed by the line of some serials is the line of a reply
pub done_line : (rest : List ℕ) → IsLineOf FitsSerials (map decimal) rest
    → IsLineOf (FitsReplyIn V1) reply_words (line_of (codes "done" ∷ rest ∷ []))
done_line rest h = by_serials h.0 h.1 h.2 where
  by_serials : (ns : List ℕ) → FitsSerials ns → rest ≡ line_of (map decimal ns)
      → IsLineOf (FitsReplyIn V1) reply_words (line_of (codes "done" ∷ rest ∷ []))
  by_serials [] fits e = absurd (omega (arith, fits.0))
  by_serials (n ∷ ns) fits e = (reply.Done (n ∷ ns), (fits.1, refl), ap (λ (x : List ℕ). codes "done" ++ SPACE ∷ x) e)

-- ---- a reply without a verb

-- a line that starts with no verb and space is no reply of this kind, if it is neither `done`, nor `eof` or a fault
-- of this kind
no_lone_reply : (Is : Reply → Type 0) (line : List ℕ)
    → ((v : ReplyVerb) (after : List ℕ) → FitsAlways v → line ≢ reply_verb_word v ++ SPACE ∷ after)
    → line ≢ codes "done" → (Is reply.Eof → line ≢ codes "eof")
    → ((f : Fault) → Is (reply.Fault f) → line ≢ line_of (fault_words f))
    → (x : Reply) → Is x → line ≢ line_of (reply_words x)
no_lone_reply Is line none done end fault (reply.Fd fd minor) is e = none reply_verb.Fd _ tt e
no_lone_reply Is line none done end fault (reply.Id id) is e = none reply_verb.Id _ tt e
no_lone_reply Is line none done end fault (reply.Took serial) is e = none reply_verb.Took _ tt e
no_lone_reply Is line none done end fault (reply.Got serial addr bytes) is e = none reply_verb.Got _ tt e
no_lone_reply Is line none done end fault (reply.Done []) is e = done e
no_lone_reply Is line none done end fault (reply.Done (n ∷ ns)) is e = none reply_verb.Done _ tt e
no_lone_reply Is line none done end fault reply.Eof is e = end is e
no_lone_reply Is line none done end fault (reply.Fault f) is e = fault f is e

-- a line that starts with no verb and space is `done`, `eof`, a fault, or no reply
pub standing_alone : (line : List ℕ) (r : Option Reply)
    → ((v : ReplyVerb) (after : List ℕ) → FitsAlways v → line ≢ reply_verb_word v ++ SPACE ∷ after)
    → MatchOption r ((line ≢ codes "done") × (line ≢ codes "eof") × ((f : Fault) → line ≢ line_of (fault_words f)))
    (λ x. FitsReply x × (line ≡ line_of (reply_words x)))
    → IsReadAs FitsReply reply_words line r
standing_alone line (Some x) none found = found
standing_alone line None none found =
    no_lone_reply FitsReply line none found.0 (λ h. found.1) (λ f h. found.2 f)
