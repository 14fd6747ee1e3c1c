use Rattle.smx_model.proofs.Common.{◌≡◌, take}
use Rattle.smx_links.specs.LinkLists.{others_of}
use Rattle.smx_links.proofs.links.Links.remove_each.Given as goal

abbrev pub invariant-loop-id : goal.invariant-loop-id
invariant-loop-id l = l.self ≡ others_of (take l.id-index l.ids) l.initial.self
