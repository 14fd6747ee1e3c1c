use Rattle.smx_tables.proofs.Common.{◌≡◌, ◌&&◌, eqb, subst, list_any, may_unlink}
use Rattle.std.specs.Prelude.{Ok}
use Rattle.smx_types.specs.declared.command.Which.{Which}
use Rattle.smx_types.specs.declared.reply.Fault.TheVariants.{NoLink}
use Rattle.smx_tables.specs.UnlinkTargets.{are_there}
use Rattle.smx_tables.proofs.AboveLemmas.{target_of_id}
use Rattle.smx_tables.proofs.LookupLemmas.{is_there}
use Rattle.smx_tables.proofs.commands_of_links.targets.Goals as goal

pub returns-in_ok-from_slice-in-Id : goal.returns-in_ok-from_slice-in-Id
returns-in_ok-from_slice-in-Id c =
    let t = may_unlink c.args.kind c.args.stream in
    let links = c.args.links.now.links in
    let there = is_there NoLink (list_any (λ l. eqb l.id c.in-Id.id && t l) links)
    (subst (λ (w : Which). are_there w c.args.kind c.args.stream links ≡ Ok tt) c.in-Id.is c.requires.there) in
    rw c.in-Id.is (rw (target_of_id t c.in-Id.id links c.requires.rise.rise there) c.in_ok-from_slice-in-Id.ensures.items)
