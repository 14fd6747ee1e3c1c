use Rattle.smx_model.proofs.Common.{◌≡◌, take}
use Rattle.smx_links.proofs.links.Links.copy.Given as goal

abbrev pub invariant-loop-link : goal.invariant-loop-link
invariant-loop-link l = l.copy ≡ take l.link-index l.self
