use Rattle.std.proofs.Common.{◌≡◌, ℕ, List, [], ◌++◌, ap, append_assoc, ◌∙◌}
use Rattle.smx_draw.specs.DotText.{dot_head}
use Rattle.smx_draw.specs.Parts.{parts}
use Rattle.smx_draw.specs.Pieces.{filled}
use Rattle.smx_draw.specs.Queues.{queue_rows}
use Rattle.smx_draw.specs.declared.queues.QueueRow.{QueueRow}
use Rattle.smx_draw.proofs.form.write_dot.Goals as goal

pub returns : goal.returns
returns c =
    let drivers = c.args.drivers.now in
    let view = c.args.view.now in
    let queues : c.as_slice-2.result.now ≡ queue_rows drivers view.msgs =
    c.as_slice-2.ensures.value ∙ (c.in_ok-queues.ensures ∙ ap (queue_rows drivers) c.as_slice.ensures) in
    let all : c.as_slice-3.result.now ≡ parts drivers view (queue_rows drivers view.msgs) =
    c.as_slice-3.ensures.value ∙ (c.in_ok-parts.ensures ∙ ap (λ (qs : List QueueRow). parts drivers view qs) queues) in
    let head : c.put.new.out.items ≡ filled dot_head [] =
    c.in_ok-put.ensures ∙ ap (λ (t : List ℕ). t ++ filled dot_head []) c.new-out.ensures.items in
    rw (c.in_ok-put-2.ensures, c.in_ok-put_lines.ensures, all, head) (simp append_assoc)
