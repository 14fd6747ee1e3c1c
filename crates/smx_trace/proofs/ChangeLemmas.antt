-- The text of changes, group by group, and texts that are written in parts.
use Rattle.smx_trace.proofs.Common.{Bool, append_assoc, flat_map, codes, flat_map-append, Change, group_changes}
use Rattle.smx_trace.proofs.Common.{missing_from, changes_text, marked}
use Rattle.std.proofs.Common.{◌≡◌, ℕ, List, ◌++◌}
use Rattle.std.proofs.lemmas.List.Folds.{flat_map-map}
use Rattle.smx_model.specs.Changes.{ViewLine}
use Rattle.smx_trace.specs.TraceWords.{view_line_words}

-- a group: the lines that are gone, and then those that are new
pub group_written : {X : Type 0} (line : X → ViewLine) (same : X → X → Bool) (before after : List X) (out new : List ℕ)
    → new ≡ out ++ (flat_map (λ x. marked (codes "  - ") (view_line_words (line x))) (missing_from same before after)
    ++ flat_map (λ y. marked (codes "  + ") (view_line_words (line y))) (missing_from same after before))
    → new ≡ out ++ changes_text (group_changes same line before after)
group_written line same before after out new e = simp (flat_map-append, flat_map-map) e

-- changes that are written one after the other
pub joined : (xs ys : List Change) (a b c : List ℕ) → b ≡ a ++ changes_text xs → c ≡ b ++ changes_text ys
    → c ≡ a ++ changes_text (xs ++ ys)
joined xs ys a b c e f = simp (e, f, flat_map-append, append_assoc)

-- what is written after two parts
pub after_two : (a b0 b1 c x y z : List ℕ) → b0 ≡ a ++ x → b1 ≡ b0 ++ y → c ≡ b1 ++ z → c ≡ a ++ (x ++ (y ++ z))
after_two a b0 b1 c x y z e f g = simp (e, f, g, append_assoc)
