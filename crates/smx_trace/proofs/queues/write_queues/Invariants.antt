use Rattle.std.specs.Prelude.{length}
use Rattle.smx_trace.specs.Queues.{IsLeft, queues_left}
use Rattle.smx_trace.proofs.queues.write_queues.Given as goal

abbrev pub decreases-lines : goal.decreases-lines
decreases-lines l = length l.rest

abbrev pub invariant-lines : goal.invariant-lines
invariant-lines l = IsLeft l.config.drivers l.config.configuration.flow
    (queues_left l.with_messages l.config.drivers l.config.configuration) l.initial.out.items l.out.items l.rest
