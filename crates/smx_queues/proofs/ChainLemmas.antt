-- Chains of nodes, and the changes that leave them as they are.
use Rattle.std.proofs.Common.{◌≡◌, ◌≢◌, ℕ, suc, ◌+◌, ◌<◌, ◌≤◌, nat_eq, cond, List, [], ◌∷◌, ◌++◌, length, Some, refl}
use Rattle.std.proofs.Common.{ap, ◌∙◌, arith, add-zero}
use Rattle.std.proofs.lemmas.Bool.Decides.{nat_tests}
use Rattle.slab.specs.Slab.{Slab, get}
use Rattle.smx_types.specs.declared.message.Message.{Message}
use Rattle.smx_queues.specs.declared.chain.Node.{Node}
use Rattle.smx_queues.specs.Chains.{IsChain, walk}

-- the function `own` with another owner at one key
abbrev pub owned : (ℕ → ℕ × ℕ) → ℕ → ℕ × ℕ → ℕ → ℕ × ℕ
owned own key mark x = cond (nat_eq x key) mark (own x)

-- a key that was given an owner has this owner
pub owned-same : (own : ℕ → ℕ × ℕ) (key : ℕ) (mark : ℕ × ℕ) → owned own key mark key ≡ mark
owned-same own key mark = grind (arith, nat_tests)

-- each other key keeps its owner
pub owned-other : (own : ℕ → ℕ × ℕ) (key : ℕ) (mark : ℕ × ℕ) (x : ℕ) → x ≢ key → owned own key mark x ≡ own x
owned-other own key mark x differs = grind (arith, nat_tests)

-- two owners with different places or ranks are the owners of different keys
pub keys_differ : (own : ℕ → ℕ × ℕ) (x y i j r t : ℕ) → own x ≡ (i, r) → own y ≡ (j, t) → (i ≡ j → r ≡ t → ⊥) → x ≢ y
keys_differ own x y i j r t e f apart same = grind arith

-- a change that affects no node of a chain and none of its owners keeps the chain
pub frame : (own own' : ℕ → ℕ × ℕ) (s s' : Slab Node) (p rank first : ℕ) (ms : List Message) (last : ℕ)
    → ((x r : ℕ) (node : Node) → get s x ≡ Some node → own x ≡ (p, r) → rank ≤ r
    → (get s' x ≡ get s x) × (own' x ≡ own x)) → IsChain own s p rank first ms last
    → IsChain own' s' p rank first ms last
frame own own' s s' p rank first [] last kept c = tt
frame own own' s s' p rank first (m ∷ rest) last kept c =
    let k = kept first rank _ c.1 c.2 (omega arith) in (
      c.0,
      k.0 ∙ c.1,
      k.1 ∙ c.2,
      c.3,
      frame own own' s s' p (suc rank) c.0 rest last
          (λ x r node found of above. kept x r node found of (omega arith)) c.4,
    )

-- the last node of a chain belongs to the place, and has the last rank
pub last_owner : (own : ℕ → ℕ × ℕ) (s : Slab Node) (p rank first : ℕ) (m : Message) (rest : List Message) (last : ℕ)
    → IsChain own s p rank first (m ∷ rest) last
    → (own last ≡ (p, rank + length rest)) × ((node : Node) × (get s last ≡ Some node))
last_owner own s p rank first m [] last c = rw (← c.3 refl, add-zero rank) (c.2, (_, c.1))
last_owner own s p rank first m (m2 ∷ rest) last c = grind (arith, last_owner own s p (suc rank) c.0 m2 rest last c.4)

-- the first key of the chain of these messages after one more node is added at the end
abbrev pub first_with : List Message → ℕ → ℕ → ℕ
first_with [] first key = key
first_with (m ∷ rest) first key = first

-- it is the new key only if the chain had no node
pub first_with_is : (count first key : ℕ) (ms : List Message) → count ≡ length ms
    → first_with ms first key ≡ cond (nat_eq count 0) key first
first_with_is count first key [] e = rw e refl
first_with_is count first key (m ∷ ms) e = grind (arith, nat_tests)

-- a chain with one more node after its last one is a chain, and ends at the new node
pub chain_more : (own own' : ℕ → ℕ × ℕ) (s s' : Slab Node) (p rank first : ℕ) (ms : List Message) (last key : ℕ)
    (node : Node) → IsChain own s p rank first ms last
    → ((x r : ℕ) (n : Node) → get s x ≡ Some n → own x ≡ (p, r) → own' x ≡ own x)
    → get s' key ≡ Some node → own' key ≡ (p, rank + length ms)
    → ((x r : ℕ) (n : Node) → get s x ≡ Some n → own x ≡ (p, r) → x ≢ last → get s' x ≡ get s x)
    → (0 < length ms → (was : Node) → get s last ≡ Some was
    → get s' last ≡ Some (record { message = was.message; next = key }))
    → IsChain own' s' p rank (first_with ms first key) (ms ++ node.message ∷ []) key
chain_more own own' s s' p rank first [] last key node c owners found of others followed =
    (node.next, found, rw (add-zero rank) at of, λ _. refl, tt)
chain_more own own' s s' p rank first (m ∷ []) last key node c owners found of others followed = (
  key,
  rw (← c.3 refl) at (followed (omega arith) _ (rw (c.3 refl) at c.1)),
  owners first rank _ c.1 c.2 ∙ c.2,
  λ e. absurd (cc),
  chain_more own own' s s' p (suc rank) c.0 [] last key node tt owners found
      (of ∙ ap (λ (r : ℕ). (p, r)) (omega arith)) others
      (λ some was at. absurd (omega (arith, some))),
)
chain_more own own' s s' p rank first (m ∷ m2 ∷ rest) last key node c owners found of others followed =
    let t = last_owner own s p (suc rank) c.0 m2 rest last c.4 in
    let before : first ≢ last = keys_differ own first last p p rank (suc rank + length rest) c.2 t.0
    (λ _ e. omega (arith, e)) in (
      c.0,
      others first rank _ c.1 c.2 before ∙ c.1,
      owners first rank _ c.1 c.2 ∙ c.2,
      λ e. absurd (cc),
      chain_more own own' s s' p (suc rank) c.0 (m2 ∷ rest) last key node c.4 owners found
          (of ∙ ap (λ (r : ℕ). (p, r)) (omega arith)) others
          (λ _. followed (omega arith)),
    )

-- a walk along a chain meets its messages
pub walk_chain : (own : ℕ → ℕ × ℕ) (s : Slab Node) (p rank first : ℕ) (ms : List Message) (last : ℕ)
    → IsChain own s p rank first ms last → walk s (length ms) first ≡ ms
walk_chain own s p rank first [] last c = refl
walk_chain own s p rank first (m ∷ rest) last c = grind (arith, walk_chain own s p (suc rank) c.0 rest last c.4)
