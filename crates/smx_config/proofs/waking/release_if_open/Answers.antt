use Rattle.std.proofs.Common.{◌∙◌, sym, arith}
use Rattle.smx_config.proofs.WakeLemmas.{not_released}
use Rattle.smx_config.proofs.waking.release_if_open.Goals as goal
use Rattle.smx_config.proofs.waking.release_if_open.Goals.{else-not-is_full_at-via-then-not-is_full_at+else-is_set}
use Rattle.smx_config.proofs.waking.release_if_open.Goals.{else-not-is_full_at-via-else-not-is_full_at}

pub returns-then-is_set : goal.returns-then-is_set
returns-then-is_set c = λ p at. c.release.ensures.released c.args.tables.now.drivers
    c.args.tables.now.configuration p at
    (sym ((rw (c.queues.ensures.drivers, c.queues.ensures.fulls) at c.is_full_at.ensures) p at) ∙ c.if-not-is_full_at.true)

pub returns-else-not-is_full_at : goal.returns-else-not-is_full_at
returns-else-not-is_full_at c =
    grind (
      arith,
      else-not-is_full_at-via-then-not-is_full_at+else-is_set,
      not_released,
      else-not-is_full_at-via-else-not-is_full_at,
    )
