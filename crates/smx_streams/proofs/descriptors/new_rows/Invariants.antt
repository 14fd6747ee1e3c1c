use Rattle.smx_model.proofs.Common.{◌≡◌, [], replicate}
use Rattle.smx_streams.proofs.descriptors.new_rows.Given as goal

abbrev pub invariant-loop-process : goal.invariant-loop-process
invariant-loop-process l = l.processes.items ≡ replicate l.process []
