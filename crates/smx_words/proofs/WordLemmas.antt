-- Words contain no spaces.
use Rattle.smx_words.proofs.Common.{◌≡◌, ℕ, List, ◌∷◌, ◌++◌, sym, ap, ◌∙◌, arith, rules, FitsAlways, FitsName}
use Rattle.smx_words.proofs.Common.{reply_verb_word, SPACE, IsFree}
use Rattle.smx_words.specs.declared.reading.verb.ReplyVerb.{ReplyVerb}
use Rattle.smx_words.specs.declared.reading.verb.ReplyVerb.TheVariants as reply_verb
use Rattle.smx_words.proofs.CutLemmas.{apart}
use Rattle.smx_words.proofs.DecidedLemmas.{HasWord}
use Rattle.smx_words.proofs.DecidedWordLemmas.{name}
use Rattle.smx_words.proofs.LineLemmas.{seen_free}

-- a word contains no space
pub word_free : {X : Type 0} {Fits : X → Type 0} {word : X → List ℕ} → HasWord Fits word → (x : X) → Fits x
    → IsFree SPACE (word x)
word_free {word = word} d x fits = seen_free SPACE (omega arith) (word x) (d.are_words x fits).1

-- the first word of a reply contains no space
pub reply_verb_free : (v : ReplyVerb) → FitsAlways v → IsFree SPACE (reply_verb_word v)
reply_verb_free reply_verb.Fd fits = search rules
reply_verb_free v fits = search rules

-- bytes start with the name before the first space, and the rest after it is unique
pub first_name_is : (text word rest called : List ℕ) → IsFree SPACE word → text ≡ word ++ SPACE ∷ rest
    → FitsName called → word ≡ called
    → FitsName called × (text ≡ called ++ SPACE ∷ rest)
    × ((x : List ℕ) (after : List ℕ) → FitsName x → text ≡ x ++ SPACE ∷ after → after ≡ rest)
first_name_is text word rest called free is fits same = (
  fits,
  is ∙ ap (λ (w : List ℕ). w ++ SPACE ∷ rest) same,
  λ x after h e.
      (apart SPACE x word after rest (word_free name x h) free (sym e ∙ is)).1,
)
