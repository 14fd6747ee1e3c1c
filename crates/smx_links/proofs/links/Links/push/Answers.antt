use Rattle.smx_model.proofs.Common.{◌≡◌, ℕ, ◌<◌, false, ◌++◌, [], ◌∷◌, List, None, eqb, sym, subst, ap, ◌∙◌, All}
use Rattle.smx_model.proofs.Common.{lookup, values_of, Link, is_below}
use Rattle.indexmap.proofs.CallerLemmas.{insert_entry-new}
use Rattle.smx_links.specs.Keys.{under_id}
use Rattle.smx_links.proofs.IdLemmas.{below_none}
use Rattle.smx_links.proofs.KeyLemmas.{found_push, lookup_id, sets_from, values_push}
use Rattle.smx_links.proofs.links.Links.push.Goals as goal
use Rattle.smx_links.proofs.links.Links.push.Goals.{After-unwrap}

-- the new link is the last entry
pushed : (c : After-unwrap) → c.insert.new.self.entries ≡ c.self.inside.by_id.entries ++ under_id c.args.link ∷ []
pushed c =
    let none : lookup (eqb c.args.link.id) c.reserve.new.self.entries ≡ None =
    ap (lookup (eqb c.args.link.id)) c.reserve.ensures.entries
    ∙ lookup_id c.self.inside.by_id.entries c.self.inside.ids.entries c.args.link.id c.self.invariant
    ∙ below_none (values_of c.self.inside.by_id.entries) c.args.link.id
    (subst (λ (ls : List Link). All (λ l. l.id < c.args.link.id) ls) (sym c.self.view_is) c.requires.new) in
    rw c.unwrap.ensures at c.insert.ensures.entries
    ∙ insert_entry-new eqb c.reserve.new.self c.args.link.id c.args.link none
    ∙ ap (λ (es : List (ℕ × Link)). es ++ under_id c.args.link ∷ []) c.reserve.ensures.entries

pub invariant_of-self-2 : goal.invariant_of-self-2
invariant_of-self-2 c =
    let x = (goal.at.invariant_of-self-2 c).After-unwrap in
    found_push c.self.inside.by_id.entries _ c.self.inside.ids.entries _ c.args.link c.self.invariant
    (subst (λ (ls : List Link). is_below ls c.args.link.lower ≡ false) (sym c.self.view_is) c.requires.free)
    (pushed x)
    (sets_from _ _ _ _ _ c.reserve-2.ensures.entries
    (rw (c.unwrap-2.ensures, c.key_of.ensures) at c.insert-2.ensures.updates).0)

pub returns-clause-ok : goal.returns-clause-ok
returns-clause-ok c =
    let x = (goal.at.returns-clause-ok c).After-unwrap in
    ap values_of (pushed x) ∙ values_push c.self.inside.by_id.entries c.args.link
    ∙ ap (λ (ls : List Link). ls ++ c.args.link ∷ []) c.self.view_is
