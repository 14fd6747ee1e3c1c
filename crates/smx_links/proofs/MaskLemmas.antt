-- Masks of links.
use Rattle.smx_model.proofs.Common.{◌≡◌, ℕ, true, List, [], ◌∷◌, ◌++◌, sym, ◌∙◌, Link, reaches, arith}
use Rattle.smx_model.proofs.PathLemmas.{reaches_push, reaches_trans}
use Rattle.smx_links.specs.Masks.{has_bit, AreJoined, AreMasks}

-- the masks after one more link
pub masks_push : (ls : List Link) (l : Link) (old new : List ℕ) → AreMasks ls old
    → AreJoined old l.ctl.driver l.lower.driver new → AreMasks (ls ++ l ∷ []) new
masks_push ls l old new m j a b = j a b ∙ rw (m a b, m a l.ctl.driver, m l.lower.driver b) (sym (reaches_push ls l a b))

-- a link along an existing path adds no new path
known : (ls : List Link) (l : Link) (a b : ℕ) → reaches ls l.ctl.driver l.lower.driver ≡ true
    → reaches (l ∷ ls) a b ≡ true → reaches ls a b ≡ true
known ls l a b k h = grind (arith, reaches_trans ls l.ctl.driver l.lower.driver b k, reaches_trans ls a l.ctl.driver b)

-- paths lead to the same drivers without such a link
pub known_same : (ls : List Link) (l : Link) → reaches ls l.ctl.driver l.lower.driver ≡ true
    → (a b : ℕ) → reaches ls a b ≡ reaches (l ∷ ls) a b
known_same ls l k a b = grind (arith, known ls l a b k)

-- the masks after one more link along an existing path
pub masks_known : (ls : List Link) (l : Link) (ws : List ℕ) → AreMasks ls ws
    → has_bit ws l.ctl.driver l.lower.driver ≡ true → AreMasks (ls ++ l ∷ []) ws
masks_known ls l ws m k a b = grind (arith, m a b, known_same, m l.ctl.driver l.lower.driver, reaches_push)
