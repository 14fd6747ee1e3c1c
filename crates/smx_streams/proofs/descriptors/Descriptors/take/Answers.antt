use Rattle.smx_model.proofs.Common.{sym, arith}
use Rattle.smx_streams.proofs.RowLemmas.{stream_is_cell, take_cell, take_none}
use Rattle.smx_streams.proofs.RowOrderLemmas.{are_listed, rows_with_cell}
use Rattle.smx_streams.proofs.descriptors.Descriptors.take.Goals as goal

pub returns-in_err-stream-clause-stream : goal.returns-in_err-stream-clause-stream
returns-in_err-stream-clause-stream c = grind (arith, stream_is_cell)

pub returns-in_err-stream-clause-rest : goal.returns-in_err-stream-clause-rest
returns-in_err-stream-clause-rest c =
    cc (take_none c.self.inside.processes.items c.args.process c.args.fd
    (sym (rw (c.deref.ensures.value, c.get.ensures.value) at c.in_err-stream.ensures)))

pub returns-in_err-stream-clause-listed : goal.returns-in_err-stream-clause-listed
returns-in_err-stream-clause-listed c = grind (arith, are_listed c.self.inside.processes.items c.self.invariant)

pub invariant_of-self : goal.invariant_of-self
invariant_of-self c = grind (arith, rows_with_cell)

pub returns-clause-stream : goal.returns-clause-stream
returns-clause-stream c = grind (arith, stream_is_cell c.self.inside.processes.items c.args.process c.args.fd)

pub returns-clause-rest : goal.returns-clause-rest
returns-clause-rest c = grind (arith, take_cell c.self.inside.processes.items c.args.process c.args.fd)

pub returns-clause-listed : goal.returns-clause-listed
returns-clause-listed c = are_listed c.set_cell.new.rows.items
    (rw (c.set_cell.ensures, c.get-2.ensures.value)
    (rows_with_cell c.self.inside.processes.items c.args.process c.args.fd _ c.self.invariant))
