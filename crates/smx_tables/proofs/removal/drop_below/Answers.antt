use Rattle.smx_tables.proofs.Common.{◌∙◌, ◌+◌, List, ℕ, ap, sym, take, arith, take_more, Place, QueuedMessage}
use Rattle.smx_tables.proofs.Common.{same_place, is_read_below_listed}
use Rattle.smx_types.specs.declared.stream.Side.TheVariants as side
use Rattle.smx_tables.proofs.BelowLemmas.{empties_alike, empties_more, empties_none, none_listed_yet, read_more}
use Rattle.smx_tables.proofs.BelowLemmas.{read_none}
use Rattle.smx_tables.proofs.removal.drop_below.Goals as goal
use Rattle.smx_tables.proofs.removal.drop_below.Goals.{in-Some, in_default}

pub loop-id-init : goal.loop-id-init
loop-id-init c = empties_none _ c.args.queues.now c.args.dropped.now
    (none_listed_yet (λ (h : QueuedMessage). h.place) c.args.links.now.links c.args.queues.now.flow)
    (none_listed_yet (λ (p : Place). p) c.args.links.now.links c.args.queues.now.fulls) c.requires

pub loop-id-preserved : goal.loop-id-preserved
loop-id-preserved c =
    let links = c.args.links.now.links in
    let so_far = take c.loop-id.id-index c.args.gone.now in
    let now = take (c.loop-id.id-index + 1) c.args.gone.now in
    let more = take_more c.args.gone.now c.loop-id.id-index 0 (omega arith) in
    elim c.match-get.branch [
      | in-Some w ↦ rw (w.queues-is, w.dropped-is)
          (empties_more (is_read_below_listed links so_far)
          (λ p. same_place p (record { stream = w.in-Some.link.now.lower; side = side.Read }))
          (is_read_below_listed links now) _ _ _ _ _ _
          (λ p. ap (λ (ids : List ℕ). is_read_below_listed links ids p) more
          ∙ read_more links so_far _ w.in-Some.link.now w.in-Some.ensures.sound.sound.lowers
          w.in-Some.ensures.sound.ids.rise
          (sym w.in-Some.ensures.value) p) c.loop-id.invariant w.drop_at.ensures)
      | in_default w ↦ rw (w.queues-is, w.dropped-is)
          (empties_alike (is_read_below_listed links so_far) (is_read_below_listed links now) _ _ _ _
          (λ p. ap (λ (ids : List ℕ). is_read_below_listed links ids p) more
          ∙ read_none links so_far _ w.in_default.ensures.sound.sound.lowers
          w.in_default.ensures.sound.ids.rise (sym w.in_default.ensures.value) p) c.loop-id.invariant)
    ]
