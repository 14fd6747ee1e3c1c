use Rattle.std.proofs.Common.{◌≡◌, ℕ, ◌++◌, subst, sym}
use Rattle.std.specs.Prelude.{OnOk}
use Rattle.smx_draw.specs.SvgElements.{gauge, sized_gauge}
use Rattle.smx_draw.specs.declared.queues.QueueItem.{QueueItem}
use Rattle.smx_draw.proofs.svg.under.QueueRowDrawn.put_at.Goals as goal

pub returns-in-Bytes : goal.returns-in-Bytes
returns-in-Bytes c =
    subst (λ (item : QueueItem). OnOk c.put.result (
    c.put.new.out.items ≡ c.args.out.now.items ++ gauge item c.args.at
    )) (sym c.in-Bytes.is) (subst (λ (width : ℕ). OnOk c.put.result (c.put.new.out.items ≡ c.args.out.now.items
    ++ sized_gauge width c.in-Bytes.bytes c.in-Bytes.high c.in-Bytes.low c.args.at
    )) c.saturating_sub.ensures c.put.ensures)
