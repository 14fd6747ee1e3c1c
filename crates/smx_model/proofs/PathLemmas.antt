-- Paths, and the test for them.
use Rattle.smx_model.proofs.Common.{◌≡◌, ℕ, zero, suc, ◌<◌, Bool, true, false, ◌&&◌, ◌||◌, eqb, List, [], ◌∷◌, ◌++◌}
use Rattle.smx_model.proofs.Common.{length, get_or, refl, sym, subst, arith, inl, inr, length-append, find, Some}
use Rattle.smx_model.proofs.Common.{false≢true, both_ways, or_cases, and_parts, false_from_ne_true}
use Rattle.smx_model.proofs.Common.{or_left, or_right, eqb-true, Link, HasNoCycle, reaches, cases_Bool, ◌∙◌}
use Rattle.std.specs.List.{Contains}
use Rattle.std.proofs.lemmas.List.Elements.{Contains-append_cases, Contains-append_left, Contains-append_right}
use Rattle.smx_model.specs.Paths.{IsPath, Path}
use Rattle.smx_model.proofs.MemberLemmas.{is_first, is_later}

-- driver a is driver b, or reaches it
abbrev comes : List Link → ℕ → ℕ → Bool
comes links a b = eqb a b || reaches links a b

-- links that lead from driver a to driver b; none if the drivers are the same
record Walk (links : List Link) (a b : ℕ) : Type 0 where
  path : List Link
  leads : IsPath links a path b

-- links from driver a to b followed by links from b to c lead from a to c
walk_join : (links : List Link) (a : ℕ) (p : List Link) (b : ℕ) (q : List Link) (c : ℕ) → IsPath links a p b
    → IsPath links b q c → IsPath links a (p ++ q) c
walk_join links a [] b q c h k = subst (λ (x : ℕ). IsPath links x q c) (sym h) k
walk_join links a (l ∷ p) b q c h k = (h.0, h.1, walk_join links l.lower.driver p b q c h.2 k)

-- links that lead over some links also lead over any list that contains all of these
walk_more : (xs ys : List Link) → ((l : Link) → Contains xs l → Contains ys l) → (a : ℕ) (p : List Link) (b : ℕ)
    → IsPath xs a p b → IsPath ys a p b
walk_more xs ys more a [] b h = h
walk_more xs ys more a (l ∷ p) b h = (more l h.0, h.1, walk_more xs ys more l.lower.driver p b h.2)

-- a path over some links is a path over any list that contains all of these
pub path_more : (xs ys : List Link) → ((l : Link) → Contains xs l → Contains ys l) → (a b : ℕ) → Path xs a b
    → Path ys a b
path_more xs ys more a b h = record { path = h.path; some = h.some; leads = walk_more xs ys more a h.path b h.leads }

-- if driver a is driver b, or reaches it, links lead from a to b
comes_walk : (links : List Link) (a b : ℕ) → (reaches links a b ≡ true → Path links a b) → comes links a b ≡ true
    → Walk links a b
comes_walk links a b f h = grind arith

-- links to the upper driver of a link, the link, and links from its lower driver form a path
path_over : (l : Link) (ls : List Link) (a b : ℕ) → Walk ls a l.ctl.driver → Walk ls l.lower.driver b
    → Path (l ∷ ls) a b
path_over l ls a b h k = record {
  path = h.path ++ l ∷ k.path;
  some = omega (arith, length-append h.path (l ∷ k.path));
  leads = walk_join (l ∷ ls) a h.path l.ctl.driver (l ∷ k.path) b
      (walk_more ls (l ∷ ls) (λ k. is_later k l ls) a h.path l.ctl.driver h.leads)
      (is_first l ls, refl, walk_more ls (l ∷ ls) (λ k. is_later k l ls) l.lower.driver k.path b k.leads);
}

-- if the test says that one driver reaches another, a path leads from the first to the second
pub reaches_path : (links : List Link) (a b : ℕ) → reaches links a b ≡ true → Path links a b
reaches_path [] a b h = absurd (false≢true h)
reaches_path (l ∷ ls) a b h = elim (or_cases (reaches ls a b) _ h) [
  | inl r ↦ path_more ls (l ∷ ls) (λ k. is_later k l ls) a b (reaches_path ls a b r)
  | inr via ↦ let v = and_parts (comes ls a l.ctl.driver) (comes ls l.lower.driver b) via in
      path_over l ls a b (comes_walk ls a l.ctl.driver (reaches_path ls a l.ctl.driver) v.0)
      (comes_walk ls l.lower.driver b (reaches_path ls l.lower.driver b) v.1)
]

-- a driver that reaches a second one reaches every driver that the second is or reaches
reaches_comes : (links : List Link) (a b c : ℕ)
    → ((x y z : ℕ) → reaches links x y ≡ true → reaches links y z ≡ true → reaches links x z ≡ true)
    → reaches links a b ≡ true → comes links b c ≡ true → reaches links a c ≡ true
reaches_comes links a b c trans h k = grind (arith, trans a b c h)

-- a driver that is or reaches a second one reaches every driver that the second reaches
comes_reaches : (links : List Link) (a b c : ℕ)
    → ((x y z : ℕ) → reaches links x y ≡ true → reaches links y z ≡ true → reaches links x z ≡ true)
    → comes links a b ≡ true → reaches links b c ≡ true → reaches links a c ≡ true
comes_reaches links a b c trans h k = grind (arith, trans a b c)

-- a driver that reaches a second one reaches every driver that the second reaches
pub reaches_trans : (links : List Link) (a b c : ℕ) → reaches links a b ≡ true → reaches links b c ≡ true
    → reaches links a c ≡ true
reaches_trans [] a b c h k = h
reaches_trans (l ∷ ls) a b c h k = grind (arith, reaches_trans ls a b c, reaches_comes, reaches_trans ls, comes_reaches)

-- the upper driver of a link reaches its lower driver
pub reaches_at : (links : List Link) (k : ℕ) (l : Link) → k < length links → get_or links k l ≡ l
    → reaches links l.ctl.driver l.lower.driver ≡ true
reaches_at [] k l lt e = absurd (omega arith)
reaches_at (m ∷ ls) zero l lt e = grind arith
reaches_at (m ∷ ls) (suc k) l lt e = or_left _ _ (reaches_at ls k l (omega arith) e)

-- if links that begin with a given one lead from one driver to another, the test says that it reaches the other
walk_reaches : (links : List Link) (a : ℕ) (l : Link) (p : List Link) (b : ℕ) → IsPath links a (l ∷ p) b
    → reaches links a b ≡ true
walk_reaches links a l [] b h = grind (arith, reaches_at links h.0.0 l h.0.1 h.0.2)
walk_reaches links a l (m ∷ p) b h =
    grind (arith, reaches_trans, reaches_at, walk_reaches links l.lower.driver m p b h.2)

-- if a nonempty list of links leads from one driver to another, the test says that it reaches the other
nonempty_reaches : (links : List Link) (a : ℕ) (p : List Link) (b : ℕ) → 0 < length p → IsPath links a p b
    → reaches links a b ≡ true
nonempty_reaches links a [] b some h = absurd (omega arith)
nonempty_reaches links a (l ∷ p) b some h = walk_reaches links a l p b h

-- if a path leads from one driver to another, the test says that it reaches the other
pub path_reaches : (links : List Link) (a b : ℕ) → Path links a b → reaches links a b ≡ true
path_reaches links a b h = nonempty_reaches links a h.path b h.some h.leads

-- an element of links with one more at the end is one of them with that one at the head
end_to_head : (ls : List Link) (l k : Link) → Contains (ls ++ l ∷ []) k → Contains (l ∷ ls) k
end_to_head ls l k h = elim (Contains-append_cases ls (l ∷ []) k h)
    [ inl c ↦ is_later k l ls c | inr c ↦ Contains-append_left (l ∷ []) ls k c ]

-- links without a cycle have none with one more link, if its drivers differ and its lower one doesn't reach
-- its upper one
pub no_cycle_push : (ls : List Link) (l : Link) → HasNoCycle ls → comes ls l.lower.driver l.ctl.driver ≡ false
    → HasNoCycle (ls ++ l ∷ [])
no_cycle_push ls l none back d h =
    elim (or_cases (reaches ls d d) (comes ls d l.ctl.driver && comes ls l.lower.driver d)
    (path_reaches (l ∷ ls) d d (path_more (ls ++ l ∷ []) (l ∷ ls) (end_to_head ls l) d d h))) [
      | inl r ↦ none d (reaches_path ls d d r)
      | inr via ↦ let v = and_parts (comes ls d l.ctl.driver) (comes ls l.lower.driver d) via in
          both_ways _ back (comes_trans ls l.lower.driver d l.ctl.driver v.1 v.0)
    ] where
      comes_trans : (links : List Link) (a b c : ℕ) → comes links a b ≡ true → comes links b c ≡ true
          → comes links a c ≡ true
      comes_trans links a b c h k = elim (or_cases (eqb a b) (reaches links a b) h) [
        | inl e ↦ subst (λ (x : ℕ). comes links x c ≡ true) (sym (eqb-true a b e)) k
        | inr r ↦ or_right _ _ (reaches_comes links a b c (reaches_trans links) r k)
      ]

-- links that are all among links without a cycle have no cycle either
pub no_cycle_fewer : (xs ys : List Link) → ((l : Link) → Contains ys l → Contains xs l) → HasNoCycle xs → HasNoCycle ys
no_cycle_fewer xs ys less none d h = none d (path_more ys xs less d d h)

-- the upper driver of a link that a search finds reaches its lower driver
pub reaches_link : (links : List Link) (test : Link → Bool) (l : Link) → find test links ≡ Some l
    → reaches links l.ctl.driver l.lower.driver ≡ true
reaches_link [] test l e = cc
reaches_link (m ∷ ls) test l e = grind (arith, reaches_at (m ∷ ls) 0 l (omega arith), reaches_link ls test l)

-- an element of links with one more at the head is one of them with that one at the end
head_to_end : (ls : List Link) (l k : Link) → Contains (l ∷ ls) k → Contains (ls ++ l ∷ []) k
head_to_end ls l k h = grind (arith, Contains-append_cases, Contains-append_right, Contains-append_left)

-- paths are the same with one more link at the end or at the head
pub reaches_push : (links : List Link) (l : Link) (a b : ℕ) → reaches (links ++ l ∷ []) a b ≡ reaches (l ∷ links) a b
reaches_push links l a b = elim (cases_Bool (reaches (l ∷ links) a b)) [
  | inl t ↦ path_reaches (links ++ l ∷ []) a b
      (path_more (l ∷ links) (links ++ l ∷ []) (head_to_end links l) a b (reaches_path (l ∷ links) a b t)) ∙ sym t
  | inr f ↦
      false_from_ne_true _
      (λ t. both_ways _ f
      (path_reaches (l ∷ links) a b
      (path_more (links ++ l ∷ []) (l ∷ links) (end_to_head links l) a b
      (reaches_path (links ++ l ∷ []) a b t)))) ∙ sym f
]
