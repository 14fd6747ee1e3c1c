use Rattle.smx_model.proofs.Common.{◌≡◌, ◌<◌, false, ap, sym, subst, ◌∙◌, arith, get_or, list_any, is_fd, fd_before}
use Rattle.smx_model.proofs.Common.{with_inserted, map, length}
use Rattle.smx_streams.specs.DescriptorRows.{Listed}
use Rattle.smx_streams.proofs.RowLemmas.{put_cell}
use Rattle.smx_streams.proofs.RowOrderLemmas.{are_listed, row_length, rows_with_cell}
use Rattle.smx_streams.proofs.descriptors.Descriptors.put.Goals as goal

pub returns-clause-fds : goal.returns-clause-fds
returns-clause-fds c =
    let room : c.args.fd < get_or (map length c.self.inside.processes.items) c.args.process 0 = subst
    (λ (l : Listed). c.args.fd < get_or l.rooms c.args.process 0) (sym c.self.view_is) c.requires.room in
    let free : list_any (is_fd c.args.process c.args.fd) _
    ≡ false = subst (λ (l : Listed). list_any (is_fd c.args.process c.args.fd) l.fds ≡ false)
    (sym c.self.view_is) c.requires.free in
    rw (c.set_cell.ensures, c.get.ensures.value)
    (put_cell c.self.inside.processes.items c.args.process c.args.fd c.args.stream
    (omega (arith, room, row_length c.self.inside.processes.items c.args.process)) free)
    ∙ ap (λ (l : Listed). with_inserted fd_before l.fds
    (record { process = c.args.process; fd = c.args.fd; stream = c.args.stream })) c.self.view_is

pub invariant_of-self : goal.invariant_of-self
invariant_of-self c = rw c.set_cell.ensures (rows_with_cell _ _ _ _ c.self.invariant)

pub returns-clause-listed : goal.returns-clause-listed
returns-clause-listed c = grind (arith, are_listed, rows_with_cell)
