use Rattle.smx_model.proofs.Common.{◌≡◌, ◌++◌}
use Rattle.std.proofs.Common.{drop}
use Rattle.smx_streams.specs.DescriptorRows.{rows_from}
use Rattle.smx_streams.proofs.descriptors.fds_of.Given as goal

abbrev pub invariant-loop-number : goal.invariant-loop-number
invariant-loop-number l = l.fds.items ++ rows_from l.number (drop l.number l.processes) ≡ rows_from 0 l.processes
