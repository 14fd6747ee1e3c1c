-- Facts about the words of lines that both texts use.
use Rattle.smx_text.proofs.Common.{◌≢◌, ◌<◌, ap, arith, rules, bytes_eq, AreWords, IsFree, LINE_FEED, SPACE, line_of}
use Rattle.smx_text.proofs.Common.{AllByRecursion, IsOneLine}
use Rattle.std.proofs.Common.{◌≡◌, ℕ, false, List, [], ◌∷◌, length}
use Rattle.std.specs.Prelude.{codes}
use Rattle.std.proofs.lemmas.Slice.Eq.{bytes_eq-Decides}
use Rattle.smx_words.proofs.LineLemmas.{line_free, same_free_words, words_free}

-- the first of some words, or no bytes if there are no words
abbrev pub first_word : List (List ℕ) → List ℕ
first_word [] = []
first_word (w ∷ ws) = w

-- `config` is a word
pub config_spelled : AreWords (codes "config" ∷ [])
config_spelled = (search rules, omega arith)

-- `end` is a word
pub end_spelled : AreWords (codes "end" ∷ [])
end_spelled = (search rules, omega arith)

-- a line of words contains no line feed
pub one_line_of : (ws : List (List ℕ)) → AreWords ws → IsOneLine (line_of ws)
one_line_of ws h = line_free LINE_FEED (λ e. cc) ws (words_free LINE_FEED (omega arith) ws h.0)

-- bytes that compare as unequal are not equal
pub differ : (w v : List ℕ) → bytes_eq w v ≡ false → w ≢ v
differ w v other e = grind (arith, bytes_eq-Decides w v)

-- words without a space are the words of any line with the same bytes
pub told : (ws vs : List (List ℕ)) → AllByRecursion (IsFree SPACE) ws × (0 < length ws) → AreWords vs
    → line_of ws ≡ line_of vs → ws ≡ vs
told ws vs h k e = same_free_words ws vs h.0 (words_free SPACE (omega arith) vs k.0) h.1 k.1 e

-- words with different first words are different
pub other_first : (ws vs : List (List ℕ)) → bytes_eq (first_word ws) (first_word vs) ≡ false → ws ≢ vs
other_first ws vs other e = differ (first_word ws) (first_word vs) other (ap first_word e)
