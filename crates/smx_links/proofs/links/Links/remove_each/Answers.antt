use Rattle.smx_model.proofs.Common.{◌≡◌, false, not, take, sym, same_stream, arith}
use Rattle.std.proofs.lemmas.List.Kept.{AllPairs-filter}
use Rattle.smx_model.proofs.EachLemmas.{later_filter}
use Rattle.smx_links.specs.LinkLists.{is_one_of}
use Rattle.smx_links.proofs.IdLemmas.{none_of_next, none_of_none}
use Rattle.smx_links.proofs.links.Links.remove_each.Goals as goal

pub loop-id-init : goal.loop-id-init
loop-id-init c = sym (none_of_none c.args.self.now)

pub remove-link-requires-clause-lowers : goal.remove-link-requires-clause-lowers
remove-link-requires-clause-lowers c = rw c.loop-id.invariant
    (AllPairs-filter (λ l k. same_stream l.lower k.lower ≡ false)
    (λ l. not (is_one_of (take c.loop-id.id-index c.args.ids.now) l)) c.args.self.now c.requires.lowers)

pub remove-link-requires-clause-rise : goal.remove-link-requires-clause-rise
remove-link-requires-clause-rise c = grind (arith, later_filter)

pub loop-id-preserved : goal.loop-id-preserved
loop-id-preserved c = grind (arith, none_of_next c.args.self.now c.args.ids.now c.loop-id.id-index c.loop-id-test.true)
