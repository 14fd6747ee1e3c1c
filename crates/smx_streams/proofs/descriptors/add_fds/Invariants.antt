use Rattle.smx_model.proofs.Common.{◌≡◌, ◌++◌, [], get_or}
use Rattle.std.proofs.Common.{drop}
use Rattle.smx_streams.specs.DescriptorRows.{row_from}
use Rattle.smx_streams.proofs.descriptors.add_fds.Given as goal

abbrev pub invariant-loop-fd : goal.invariant-loop-fd
invariant-loop-fd l = l.fds.items ++ row_from l.number l.fd (drop l.fd (get_or l.processes l.number []))
    ≡ l.initial.fds.items ++ row_from l.number 0 (get_or l.processes l.number [])
