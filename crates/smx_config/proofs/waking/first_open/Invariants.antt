use Rattle.smx_config.proofs.Common.{◌≡◌, ◌<◌, true, ℕ, has_bit, IsFullAt}
use Rattle.std.proofs.Common.{◌-◌}
use Rattle.smx_config.proofs.waking.first_open.Given as goal

abbrev pub decreases-loop-start : goal.decreases-loop-start
decreases-loop-start l = l.end - l.start

abbrev pub invariant-loop-start : goal.invariant-loop-start
invariant-loop-start l =
    (n : ℕ) → n < l.start → has_bit l.wanted n ≡ true → IsFullAt l.tables.drivers l.tables.configuration n
