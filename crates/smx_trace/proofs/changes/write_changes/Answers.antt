use Rattle.std.proofs.Common.{◌++◌}
use Rattle.smx_model.specs.Changes as change
use Rattle.smx_model.specs.Changes.{group_changes, message_changes}
use Rattle.smx_types.specs.contracts.view.BindingLinePartialEq.TheImpl as of_bind
use Rattle.smx_types.specs.contracts.view.DescriptorLinePartialEq.TheImpl as of_fd
use Rattle.smx_types.specs.contracts.view.FullLinePartialEq.TheImpl as of_full
use Rattle.smx_types.specs.contracts.view.HungLinePartialEq.TheImpl as of_hung
use Rattle.smx_types.specs.contracts.view.LinkLinePartialEq.TheImpl as of_link
use Rattle.smx_types.specs.contracts.view.RouteLinePartialEq.TheImpl as of_route
use Rattle.smx_trace.proofs.ChangeLemmas.{group_written, joined}
use Rattle.smx_trace.proofs.RankLemmas.{binds_ranked, fds_ranked, fulls_ranked, hungs_ranked, links_ranked}
use Rattle.smx_trace.proofs.RankLemmas.{routes_ranked}
use Rattle.smx_trace.proofs.RankLemmas.{serials_apart}
use Rattle.smx_trace.proofs.SerialLemmas.{then_ok}
use Rattle.smx_trace.proofs.changes.write_changes.Goals as goal

pub write_group-requires-clause-before : goal.write_group-requires-clause-before
write_group-requires-clause-before c = fds_ranked c.args.drivers.now c.args.before.now c.requires.before

pub write_group-requires-clause-after : goal.write_group-requires-clause-after
write_group-requires-clause-after c = fds_ranked c.args.drivers.now c.args.after.now c.requires.after

pub write_group-requires-2-clause-before : goal.write_group-requires-2-clause-before
write_group-requires-2-clause-before c = links_ranked c.args.drivers.now c.args.before.now c.requires.before

pub write_group-requires-2-clause-after : goal.write_group-requires-2-clause-after
write_group-requires-2-clause-after c = links_ranked c.args.drivers.now c.args.after.now c.requires.after

pub write_group-requires-3-clause-before : goal.write_group-requires-3-clause-before
write_group-requires-3-clause-before c = binds_ranked c.args.drivers.now c.args.before.now c.requires.before

pub write_group-requires-3-clause-after : goal.write_group-requires-3-clause-after
write_group-requires-3-clause-after c = binds_ranked c.args.drivers.now c.args.after.now c.requires.after

pub write_group-requires-4-clause-before : goal.write_group-requires-4-clause-before
write_group-requires-4-clause-before c = routes_ranked c.args.drivers.now c.args.before.now c.requires.before

pub write_group-requires-4-clause-after : goal.write_group-requires-4-clause-after
write_group-requires-4-clause-after c = routes_ranked c.args.drivers.now c.args.after.now c.requires.after

pub write_group-requires-5-clause-before : goal.write_group-requires-5-clause-before
write_group-requires-5-clause-before c = fulls_ranked c.args.drivers.now c.args.before.now c.requires.before

pub write_group-requires-5-clause-after : goal.write_group-requires-5-clause-after
write_group-requires-5-clause-after c = fulls_ranked c.args.drivers.now c.args.after.now c.requires.after

pub write_group-requires-6-clause-before : goal.write_group-requires-6-clause-before
write_group-requires-6-clause-before c = hungs_ranked c.args.drivers.now c.args.before.now c.requires.before

pub write_group-requires-6-clause-after : goal.write_group-requires-6-clause-after
write_group-requires-6-clause-after c = hungs_ranked c.args.drivers.now c.args.after.now c.requires.after

pub write_moves-requires : goal.write_moves-requires
write_moves-requires c =
    rw c.as_slice.ensures (serials_apart c.args.drivers.now c.args.before.now c.requires.before)

pub returns : goal.returns
returns c =
    let v = c.args.before.now in let w = c.args.after.now in
    let o0 = c.args.out.now.items in
    let o1 = c.write_group.new.out.items in
    let o2 = c.write_group-2.new.out.items in
    let o3 = c.write_group-3.new.out.items in
    let o4 = c.write_group-4.new.out.items in
    let o5 = c.write_moves.new.out.items in
    let o6 = c.write_group-5.new.out.items in
    let o7 = c.write_group-6.new.out.items in
    let fds = group_changes of_fd.ghosts.eq change.Fd v.fds w.fds in
    let links = group_changes of_link.ghosts.eq change.Link v.links w.links in
    let binds = group_changes of_bind.ghosts.eq change.Bind v.binds w.binds in
    let routes = group_changes of_route.ghosts.eq change.Route v.routes w.routes in
    let msgs = message_changes v.msgs w.msgs in
    let fulls = group_changes of_full.ghosts.eq change.Full v.fulls w.fulls in
    let hungs = group_changes of_hung.ghosts.eq change.Hung v.hungs w.hungs in
    let fd_written = group_written change.Fd of_fd.ghosts.eq v.fds w.fds o0 o1 c.in_ok-write_group.ensures in
    let link_written = group_written change.Link of_link.ghosts.eq v.links w.links o1 o2
    c.in_ok-write_group-2.ensures in
    let bind_written = group_written change.Bind of_bind.ghosts.eq v.binds w.binds o2 o3
    c.in_ok-write_group-3.ensures in
    let route_written = group_written change.Route of_route.ghosts.eq v.routes w.routes o3 o4
    c.in_ok-write_group-4.ensures in
    let full_written = group_written change.Full of_full.ghosts.eq v.fulls w.fulls o5 o6
    c.in_ok-write_group-5.ensures in
    let msg_written = rw (c.as_slice.ensures, c.as_slice-2.ensures) at c.in_ok-write_moves.ensures in
    then_ok c.write_group-6.result
    (λ e.
    let hung_written = group_written change.Hung of_hung.ghosts.eq v.hungs w.hungs o6 o7 e in
    joined fds (links ++ (binds ++ (routes ++ (msgs ++ (fulls ++ hungs))))) o0 o1 o7 fd_written
    (joined links (binds ++ (routes ++ (msgs ++ (fulls ++ hungs)))) o1 o2 o7 link_written
    (joined binds (routes ++ (msgs ++ (fulls ++ hungs))) o2 o3 o7 bind_written
    (joined routes (msgs ++ (fulls ++ hungs)) o3 o4 o7 route_written
    (joined msgs (fulls ++ hungs) o4 o5 o7 msg_written
    (joined fulls hungs o5 o6 o7 full_written hung_written))))))
    c.write_group-6.ensures
