-- Facts of each element of joined lists, and facts that follow from others for each element.
use Rattle.std.proofs.Common.{List, [], ◌∷◌, ◌++◌}
use Rattle.std.specs.List.{AllByRecursion}

-- a fact of each element of two lists holds of each element of the joined list
pub all_append : {X : Type 0} (P : X → Type 0) (xs ys : List X) → AllByRecursion P xs → AllByRecursion P ys
    → AllByRecursion P (xs ++ ys)
all_append P [] ys p q = q
all_append P (x ∷ xs) ys p q = (p.0, all_append P xs ys p.1 q)

-- a fact of each element of a joined list holds of each element of its second part
pub all_right : {X : Type 0} (P : X → Type 0) (xs ys : List X) → AllByRecursion P (xs ++ ys) → AllByRecursion P ys
all_right P [] ys p = p
all_right P (x ∷ xs) ys p = all_right P xs ys p.1

-- if a fact implies another one, and the first holds of each element, so does the second
pub all_weaker : {X : Type 0} (P Q : X → Type 0) → ((x : X) → P x → Q x) → (xs : List X) → AllByRecursion P xs
    → AllByRecursion Q xs
all_weaker P Q follows [] p = tt
all_weaker P Q follows (x ∷ xs) p = (follows x p.0, all_weaker P Q follows xs p.1)
