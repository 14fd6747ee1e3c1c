use Rattle.smx_model.proofs.Common.{◌≡◌, ◌∙◌, ◌++◌, List, ℕ, ap, sym, subst, map, refl, rules, IsPermutation, Route}
use Rattle.std.proofs.Common.{append-nil}
use Rattle.std.proofs.lemmas.List.Sorted.{answers_always}
use Rattle.smx_addresses.specs.Keys.{Key}
use Rattle.smx_addresses.specs.RouteLists.{target_of, IsRouteList}
use Rattle.smx_addresses.specs.TableFields.{route_of}
use Rattle.smx_addresses.proofs.LineLemmas.{sorted_lines}
use Rattle.smx_addresses.proofs.RouteLemmas.{HasList, has_list, route_exact}
use Rattle.smx_addresses.proofs.routes.Routes.list.Goals as goal

pub returns-clause-value : goal.returns-clause-value
returns-clause-value c =
    let es = c.self.inside.ids.entries in
    let all : c.loop-key.list.items ≡ map route_of es =
    sym (append-nil _) ∙ ap (λ (rest : List (Key × ℕ)). c.loop-key.list.items ++ map route_of rest)
    (sym c.in-None.ensures.steps.0) ∙ c.loop-key.invariant
    ∙ ap (map route_of) (c.into_iter-key-iterator.ensures.into_iter_gives ∙ c.iter-key-items.ensures.rest) in
    sorted_lines target_of (λ x. x.id) route_exact route_of
    (λ e. refl) es c.args.self.now c.sort_unstable_by_key.new.self.items
    (subst (λ (xs : List Route). IsPermutation xs c.sort_unstable_by_key.new.self.items) all
    c.sort_unstable_by_key.ensures.permutation)
    (c.sort_unstable_by_key.ensures.sorted target_of (answers_always _ _ _ (λ f a r g h. search rules)))
    c.iter-key-items.ensures.unique
    (subst (HasList es) c.self.view_is (has_list es c.self.invariant.unique))

pub returns-clause-order : goal.returns-clause-order
returns-clause-order c = subst IsRouteList (c.self.view_is ∙ sym (returns-clause-value c))
    (has_list _ c.self.invariant.unique).rises
