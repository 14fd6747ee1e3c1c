use Rattle.smx_model.proofs.Common.{◌≡◌, ℕ, List, Bool, not, length, ap, ◌∙◌, All-filter, Link}
use Rattle.smx_links.specs.LinkLists.{is_one_of}
use Rattle.smx_links.specs.Masks.{IsWithin}
use Rattle.smx_links.proofs.LinkTableLemmas.{parts_less, lent}
use Rattle.smx_links.proofs.table.LinkTable.remove_each.Goals as goal

pub recompute-requires-clause-within : goal.recompute-requires-clause-within
recompute-requires-clause-within c =
    let stays : Link → Bool = λ l. not (is_one_of c.args.ids.now l) in
    rw (c.as_slice.ensures, c.remove_each.ensures, c.deref_mut.ensures.value)
    (All-filter stays (IsWithin (length c.self.inside.masks.items)) c.self.inside.links c.self.invariant.within)

pub invariant_of-self : goal.invariant_of-self
invariant_of-self c =
    let ws : List ℕ = c.self.inside.masks.items in
    let stays : Link → Bool = λ l. not (is_one_of c.args.ids.now l) in
    let long : length c.recompute.new.words ≡ length ws =
    c.recompute.ensures.length ∙ ap length c.deref_mut.ensures.value in
    rw (lent c.self.inside.masks.len c.recompute.new.words ws long c.self.inside.masks.ok.0)
    (parts_less ws c.recompute.new.words c.self.inside.links _ c.self.inside.next_id stays c.self.invariant
    c.remove_each.ensures long (rw c.as_slice.ensures at c.recompute.ensures.masks))
