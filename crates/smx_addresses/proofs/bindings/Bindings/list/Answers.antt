use Rattle.smx_model.proofs.Common.{◌≡◌, ◌∙◌, ◌++◌, List, ℕ, ap, sym, subst, map, refl, rules, IsPermutation, Binding}
use Rattle.smx_model.proofs.Common.{arith}
use Rattle.std.proofs.Common.{append-nil}
use Rattle.std.proofs.lemmas.List.Sorted.{answers_always}
use Rattle.smx_addresses.specs.Keys.{Key}
use Rattle.smx_addresses.specs.BindingLists.{address_of}
use Rattle.smx_addresses.specs.TableFields.{binding_of}
use Rattle.smx_addresses.proofs.LineLemmas.{sorted_lines}
use Rattle.smx_addresses.proofs.BindingLemmas.{HasList, has_list, binding_exact, bindings_sound}
use Rattle.smx_addresses.proofs.bindings.Bindings.list.Goals as goal

pub returns-clause-value : goal.returns-clause-value
returns-clause-value c =
    let es = c.self.inside.minors.entries in
    let all : c.loop-key.list.items ≡ map binding_of es =
    sym (append-nil _) ∙ ap (λ (rest : List (Key × ℕ)). c.loop-key.list.items ++ map binding_of rest)
    (sym c.in-None.ensures.steps.0) ∙ c.loop-key.invariant
    ∙ ap (map binding_of) (c.into_iter-key-iterator.ensures.into_iter_gives ∙ c.iter-key-items.ensures.rest) in
    sorted_lines address_of (λ x. x.minor) binding_exact binding_of
    (λ e. refl) es c.args.self.now c.sort_unstable_by_key.new.self.items
    (subst (λ (xs : List Binding). IsPermutation xs c.sort_unstable_by_key.new.self.items) all
    c.sort_unstable_by_key.ensures.permutation)
    (c.sort_unstable_by_key.ensures.sorted address_of (answers_always _ _ _ (λ f a r g h. search rules)))
    c.iter-key-items.ensures.unique
    (subst (HasList es) c.self.view_is (has_list es c.self.invariant.unique))

pub returns-clause-order : goal.returns-clause-order
returns-clause-order c = grind (arith, returns-clause-value c, bindings_sound _ _ c.self.invariant)
