use Rattle.smx_model.proofs.Common.{◌≡◌, ◌==◌, not, filter, take, list_any}
use Rattle.smx_addresses.proofs.routes.Routes.unroute_links.Given as goal

abbrev pub invariant-loop-id : goal.invariant-loop-id
invariant-loop-id l = l.self ≡ filter (λ r. not (list_any (λ i. r.id == i) (take l.id-index l.ids))) l.fn.self
