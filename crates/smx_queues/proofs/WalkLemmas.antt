-- A walk along a chain, step by step.
use Rattle.std.proofs.Common.{◌≡◌, ℕ, suc, ◌+◌, ◌-◌, ◌<◌, List, [], ◌∷◌, length, drop, Option, Some, None, refl}
use Rattle.std.proofs.Common.{sym, ap, ◌∙◌, arith, ◌++◌, map, take, append_assoc, length-drop}
use Rattle.std.specs.List.{slice_get}
use Rattle.std.proofs.lemmas.List.{drop_more, map-append, take_more}
use Rattle.std.proofs.lemmas.Option.{get_or_from_slice_get, slice_get-get_or, slice_get_within}
use Rattle.slab.specs.Slab.{Slab, get, ContainsKey}
use Rattle.smx_types.specs.declared.message.Message.{Message}
use Rattle.smx_queues.specs.declared.chain.Node.{Node}
use Rattle.smx_queues.specs.Chains.{walk}

-- equal lists have equal first items and equal rests
heads_same : (a b : Message) (xs ys : List Message) → a ∷ xs ≡ b ∷ ys → (a ≡ b) × (xs ≡ ys)
heads_same a b xs ys e = (cc, cc)

module _ (s : Slab Node) (key k : ℕ) (ms : List Message) (more : k < length ms)
    (walked : walk s (length ms - k) key ≡ drop k ms) where
  one_more : length ms - k ≡ suc (length ms - (k + 1))
  one_more = omega (arith, more)

  -- after k messages of a walk, if more are left, the walk is at a node
  pub walk_there : ContainsKey s key
  walk_there = by (get s key) refl where
    by : (o : Option Node) → get s key ≡ o → ContainsKey s key
    by None e = absurd (
        let none : [] ≡ drop k ms = rw (one_more, e) at walked in
        omega (arith, more, ap (λ (ns : List Message). length ns) none, length-drop k ms)
        )
    by (Some node) e = rw e refl

  -- this node has the next message, and from the node after it the walk meets the later ones
  pub walk_next : (node : Node) → get s key ≡ Some node
      → (slice_get ms k ≡ Some node.message) × (walk s (length ms - (k + 1)) node.next ≡ drop (k + 1) ms)
  walk_next node found =
      let same = heads_same _ _ _ _ (rw (one_more, found) at walked ∙ drop_more ms k node.message more) in
      (slice_get-get_or ms k node.message more ∙ ap (λ (m : Message). Some m) (sym same.0), same.1)

-- with the serial of the next message, a list has the serials of one message more
pub serials_more : (ms : List Message) (k : ℕ) (m : Message) (old now new : List ℕ) → slice_get ms k ≡ Some m
    → now ≡ old ++ map (λ x. x.serial) (take k ms) → new ≡ now ++ m.serial ∷ []
    → new ≡ old ++ map (λ x. x.serial) (take (k + 1) ms)
serials_more ms k m old now new at was is =
    let serials : List Message → List ℕ = map (λ x. x.serial) in
    let more : take (k + 1) ms ≡ take k ms ++ m ∷ [] = take_more ms k m (slice_get_within ms k m at)
    ∙ ap (λ (x : Message). take k ms ++ x ∷ []) (get_or_from_slice_get ms k m m at) in
    is ∙ ap (λ (xs : List ℕ). xs ++ m.serial ∷ []) was ∙ append_assoc old (serials (take k ms)) (m.serial ∷ [])
    ∙ ap (λ (xs : List ℕ). old ++ xs) (sym (ap serials more ∙ map-append _ (take k ms) (m ∷ [])))
