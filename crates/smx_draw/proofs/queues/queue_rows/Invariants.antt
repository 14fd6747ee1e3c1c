use Rattle.std.proofs.Common.{◌≡◌, ◌++◌, length}
use Rattle.smx_draw.specs.Queues.{queue_rows, rows_from}
use Rattle.smx_draw.proofs.queues.queue_rows.Given as goal

abbrev pub invariant-messages : goal.invariant-messages
invariant-messages l = l.rows.items ++ rows_from l.drivers l.count l.bytes l.rest ≡ queue_rows l.drivers l.messages

abbrev pub decreases-messages : goal.decreases-messages
decreases-messages l = length l.rest
