use Rattle.std.proofs.lemmas.List.{take_rest}
use Rattle.smx_live.proofs.InboxLemmas.{found_behind, none_behind}
use Rattle.smx_live.proofs.inbox.line_from.Goals as goal

pub returns-in_err-n : goal.returns-in_err-n
returns-in_err-n c =
    rw c.from_residual.ensures
    (none_behind c.args.held.now c.args.seen c.requires.none (rw take_rest at c.in_err-n.ensures))

pub returns : goal.returns
returns c =
    found_behind c.args.held.now c.args.seen c.in_ok-n.n c.requires.within c.requires.none
    (rw take_rest at c.in_ok-n.ensures)
