use Rattle.smx_model.proofs.Common.{◌≡◌, ℕ, false, ◌==◌, not, filter, Option, Some, ap, ◌∙◌, arith}
use Rattle.smx_model.proofs.Common.{nat_tests, lookup, route_before, with_inserted}
use Rattle.smx_addresses.specs.Keys.{is_key}
use Rattle.smx_addresses.specs.RouteLists.{is_route}
use Rattle.smx_addresses.specs.TableFields.{routes_of}
use Rattle.smx_addresses.proofs.ChangeLemmas.{Sets, sets_from}
use Rattle.smx_addresses.proofs.RouteLemmas.{routed}
use Rattle.smx_addresses.proofs.TargetLemmas.{leads_to, routed_away, routed_there}
use Rattle.smx_addresses.proofs.routes.Routes.route.Goals as goal
use Rattle.smx_addresses.proofs.routes.Routes.route.Goals.{After-unwrap}

-- the id is at the address
set : (c : After-unwrap) → Sets c.self.inside.ids.entries c.insert.new.self.entries (c.args.driver, c.args.addr)
    (Some c.args.id)
set c = sets_from _ _ _ _ _ c.reserve.ensures.entries (rw c.unwrap.ensures at c.insert.ensures.updates).0

-- the old route of the address
was : (c : After-unwrap) (o : Option ℕ) → c.unwrap.result ≡ o
    → lookup (is_key (c.args.driver, c.args.addr)) c.self.inside.ids.entries ≡ o
was c o is = grind arith

-- the list has the new route in place of the old one of the address
listed : (c : After-unwrap) → routes_of c.insert.new.self.entries ≡ with_inserted route_before
    (filter (λ r. not (is_route c.args.driver c.args.addr r)) c.args.self.now)
    (record { driver = c.args.driver; addr = c.args.addr; id = c.args.id })
listed c =
    grind (
      arith,
      routed _ _ c.args.driver c.args.addr c.args.id c.self.invariant.unique c.insert.ensures.unique (set c),
      set c,
    )

pub invariant_of-self-then-before-id : goal.invariant_of-self-then-before-id
invariant_of-self-then-before-id c =
    let x = (goal.at.invariant_of-self-then-before-id c).After-unwrap in
    let other : (c.in-Some.before == c.args.id) ≡ false = grind (arith, nat_tests, c.if-before-id.true) in
    routed_away _ _ _ _ _ c.args.id c.self.invariant c.insert.ensures.unique (set x) c.in_ok-put_target.ensures.ok _
    c.in-Some.before (was x _ c.in-Some.is) other c.drop_target.ensures

pub invariant_of-self-else-before-id : goal.invariant_of-self-else-before-id
invariant_of-self-else-before-id c =
    let x = (goal.at.invariant_of-self-else-before-id c).After-unwrap in
    routed_there _ _ _ _ _ c.args.id c.self.invariant c.insert.ensures.unique (set x) c.in_ok-put_target.ensures.ok
    (λ i n. let off : (c.in-Some.before == i) ≡ false = grind (arith, nat_tests, c.if-before-id.false) in
    ap (leads_to i) (was x _ c.in-Some.is) ∙ off)

pub invariant_of-self-in_default : goal.invariant_of-self-in_default
invariant_of-self-in_default c = grind (arith, routed_there, set, leads_to, was)

pub returns-then-before-id-clause-ok : goal.returns-then-before-id-clause-ok
returns-then-before-id-clause-ok c = listed (goal.at.returns-then-before-id-clause-ok c).After-unwrap

pub returns-else-before-id-clause-ok : goal.returns-else-before-id-clause-ok
returns-else-before-id-clause-ok c = listed (goal.at.returns-else-before-id-clause-ok c).After-unwrap

pub returns-in_default-clause-ok : goal.returns-in_default-clause-ok
returns-in_default-clause-ok c = listed (goal.at.returns-in_default-clause-ok c).After-unwrap
