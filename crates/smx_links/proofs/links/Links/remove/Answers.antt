use Rattle.smx_model.proofs.Common.{List, filter, not, eqb, sym, subst, ap, ◌∙◌, values_of, nat_lt, Link}
use Rattle.smx_model.proofs.Common.{IsRising, AreLowersApart, arith}
use Rattle.smx_links.proofs.IdLemmas.{none_goes}
use Rattle.smx_links.proofs.KeyLemmas.{found_less, lookup_id, values_less}
use Rattle.smx_links.proofs.links.Links.remove.Goals as goal

pub returns-in_err-link-clause-link : goal.returns-in_err-link-clause-link
returns-in_err-link-clause-link c = grind (arith, lookup_id _ _ c.args.id c.self.invariant)

pub returns-in_err-link-clause-rest : goal.returns-in_err-link-clause-rest
returns-in_err-link-clause-rest c =
    ap values_of c.in_err-link.ensures.unchanged
    ∙ sym (none_goes (values_of c.self.inside.by_id.entries) c.args.id
    (sym (c.in_err-link.ensures.value ∙ lookup_id _ _ c.args.id c.self.invariant)))
    ∙ ap (λ (ls : List Link). filter (λ l. not (eqb l.id c.args.id)) ls) c.self.view_is

pub invariant_of-self-2 : goal.invariant_of-self-2
invariant_of-self-2 c =
    found_less c.self.inside.by_id.entries _ c.self.inside.ids.entries _ c.in_ok-link.link c.args.id c.self.invariant
    (subst AreLowersApart (sym c.self.view_is) c.requires.lowers)
    (subst (IsRising (λ l k. nat_lt l.id k.id)) (sym c.self.view_is) c.requires.rise)
    c.in_ok-link.ensures.entries
    (sym (c.in_ok-link.ensures.value ∙ lookup_id _ _ c.args.id c.self.invariant))
    (rw c.key_of.ensures at c.swap_remove-id.ensures.updates).0

pub returns-clause-link : goal.returns-clause-link
returns-clause-link c = grind (arith, lookup_id _ _ c.args.id c.self.invariant)

pub returns-clause-rest : goal.returns-clause-rest
returns-clause-rest c =
    values_less c.self.inside.by_id.entries _ c.self.inside.ids.entries c.args.id c.self.invariant
    (subst (IsRising (λ l k. nat_lt l.id k.id)) (sym c.self.view_is) c.requires.rise) c.in_ok-link.ensures.entries
    ∙ ap (λ (ls : List Link). filter (λ l. not (eqb l.id c.args.id)) ls) c.self.view_is
