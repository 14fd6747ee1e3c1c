use Rattle.std.proofs.Common.{List, ℕ, ap, arith, set, suc, sym, ◌≡◌, ◌∙◌}
use Rattle.std.proofs.lemmas.List.{set-get_or}
use Rattle.smx_queues.specs.Rings.{RingTable}
use Rattle.smx_queues.proofs.RingLemmas.{entered}
use Rattle.smx_queues.proofs.rings.Rings.enter.Goals as goal
use Rattle.smx_queues.proofs.rings.Rings.enter.Goals.{then-index-ne0, else-index-ne0}

pub returns-else-index-q : goal.returns-else-index-q
returns-else-index-q c =
    let owned_by : List ℕ → RingTable = λ xs. record { count = c.self.inside.count; owners = xs } in
    let told : suc c.args.q ≡ c.index.result.now = omega arith in
    rw (← c.self.view_is) (ap owned_by
    (sym (ap (set c.self.inside.owners.items c.args.p) (told ∙ c.index.ensures)
    ∙ set-get_or c.self.inside.owners.items c.args.p c.index.result.now)))

pub returns-after-index-ne0 : goal.returns-after-index-ne0
returns-after-index-ne0 c = elim c.if-index-ne0.branch [
  | then-index-ne0 w ↦
      entered c.args.self.now _ c.insert.new.self c.args.p _ (w.self-is ∙ w.remove.ensures) c.insert.ensures
  | else-index-ne0 w ↦ grind (arith, w.self-is)
]
