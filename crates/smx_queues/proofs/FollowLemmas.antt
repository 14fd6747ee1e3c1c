-- The store after the last node of a chain gets a successor.
use Rattle.std.proofs.Common.{◌≡◌, ◌≢◌, ℕ, ◌<◌, nat_eq, cond, get_or, Option, Some, None, is_some, refl}
use Rattle.std.proofs.Common.{arith, inl, inr}
use Rattle.std.proofs.lemmas.Bool.{cases_Bool}
use Rattle.std.proofs.lemmas.Bool.Decides.{nat_tests}
use Rattle.std.proofs.lemmas.List.Sums.{sum_by-set}
use Rattle.slab.specs.Slab.{Slab, get, slab_len, with_value}
use Rattle.slab.proofs.SlabLemmas.{Updates-with_value, ContainsKey-within}
use Rattle.smx_types.specs.declared.message.Message.{Message}
use Rattle.smx_queues.specs.declared.chain.Node.{Node}
use Rattle.smx_queues.specs.declared.chain.Chain.{Chain}
use Rattle.smx_queues.specs.Chains.{with_follower, with_next}

-- a node with this message, followed by the node with this key
abbrev pub node_from : Message → ℕ → Node
node_from m key = record { message = m; next = key }

-- only the last node of the chain, if it has one, changes, and only its link to the next node
pub record IsFollowed (s s' : Slab Node) (chain : Chain) (key : ℕ) : Type 0 where
  pub others : (x : ℕ) → (0 < chain.count → x ≢ chain.last) → get s' x ≡ get s x
  pub changed : (was : Node) → 0 < chain.count → get s chain.last ≡ Some was
      → get s' chain.last ≡ Some (node_from was.message key)
  pub len : slab_len s' ≡ slab_len s
  pub capacity : s'.capacity ≡ s.capacity

-- this holds after a successor was given to the last node of the chain
pub followed : (s : Slab Node) (chain : Chain) (key : ℕ) → IsFollowed s (with_follower s chain key) chain key
followed s chain key = elim (cases_Bool (nat_eq chain.count 0)) [
  | inl none ↦ rw none (record {
    others = λ x _. refl;
    changed = λ was some _. absurd (let c : chain.count ≢ 0 = omega arith in grind (arith, nat_tests));
    len = refl;
    capacity = refl;
  })
  | inr some ↦
      let left : 0 < chain.count = grind (arith, nat_tests) in
      rw some (by left (get s chain.last) refl)
] where
  counted : (node : Node) → get s chain.last ≡ Some node
      → slab_len (with_value s chain.last (node_from node.message key)) ≡ slab_len s
  counted node e =
      let sums = sum_by-set (λ (o : Option Node). cond (is_some o) 1 0) s.slots chain.last
      (Some (node_from node.message key)) None (ContainsKey-within s chain.last (rw e refl)) in
      let one : ℕ = 1 in
      let was : cond (is_some (get_or s.slots chain.last None)) 1 0 ≡ one = rw e refl in
      omega (arith, sums, was)

  by : 0 < chain.count → (o : Option Node) → get s chain.last ≡ o
      → IsFollowed s (with_next s chain.last key) chain key
  by left None e = rw e (record {
    others = λ x _. refl;
    changed = λ was _ found. absurd (cc);
    len = refl;
    capacity = refl;
  })
  by left (Some node) e =
      let u = Updates-with_value s chain.last (node_from node.message key) (rw e refl) in
      rw e (record {
        others = λ x other. u.others x (other left);
        changed = λ was _ found. let same : node ≡ was = cc in rw (← same) u.changed;
        len = counted node e;
        capacity = refl;
      })
