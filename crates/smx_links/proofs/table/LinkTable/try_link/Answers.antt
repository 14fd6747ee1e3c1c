use Rattle.smx_model.proofs.Common.{◌≡◌, ◌<◌, length, sym, ap, ◌∙◌, subst}
use Rattle.smx_links.specs.LinkLists.{LinkList, refusal}
use Rattle.smx_links.specs.TableFields.{list_of_parts}
use Rattle.smx_links.proofs.LinkTableLemmas.{IsFree, is_free, parts_push, lent}
use Rattle.smx_links.proofs.table.LinkTable.try_link.Goals as goal

pub invariant_of-self-2 : goal.invariant_of-self-2
invariant_of-self-2 c =
    let list : LinkList = list_of_parts c.self.inside.masks.items c.self.inside.links c.self.inside.next_id in
    let free : IsFree list c.args.ctl c.args.lower =
    is_free list c.args.ctl c.args.lower
    (ap (λ (t : LinkList). refusal t c.args.ctl c.args.lower) c.self.view_is ∙ sym c.refusal.ensures
    ∙ c.in_default.is) in
    let up = subst (λ (t : LinkList). c.args.ctl.driver < t.drivers) (sym c.self.view_is) c.requires.ctl in
    let low = subst (λ (t : LinkList). c.args.lower.driver < t.drivers) (sym c.self.view_is) c.requires.lower in
    let long : length c.join_link.new.words ≡ length c.self.inside.masks.items = c.join_link.ensures.length
    ∙ ap length c.deref_mut.ensures.value in
    rw (
      lent c.self.inside.masks.len c.join_link.new.words c.self.inside.masks.items long c.self.inside.masks.ok.0,
      c.in_ok-push.ensures.ok,
    )
    (parts_push c.self.inside.masks.items c.join_link.new.words c.self.inside.links c.self.inside.next_id c.args.ctl
    c.args.lower c.args.kind c.self.invariant free up low long
    (c.join_link.ensures.masks c.self.inside.links (rw c.deref_mut.ensures.value c.self.invariant.masks)))
