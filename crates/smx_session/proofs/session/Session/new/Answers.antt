use Rattle.std.proofs.lemmas.Result.{err_from_is_err_and}
use Rattle.smx_session.proofs.SessionLemmas as start
use Rattle.smx_session.proofs.session.Session.new.Goals as goal

pub returns-in_err-programs : goal.returns-in_err-programs
returns-in_err-programs c =
    let (fault, is, gives) = err_from_is_err_and c.from_residual.result c.from_residual.ensures.1 in
    rw is (start.at_fault c.args.programs.now c.in_err-programs.field-0.0 fault c.in_err-programs.ensures gives)

pub returns-in_err-config : goal.returns-in_err-config
returns-in_err-config c =
    let (fault, is, gives) =
    err_from_is_err_and c.from_residual-in_err-config.result c.from_residual-in_err-config.ensures.1 in
    rw is (start.refused c.args.programs.now c.in_ok-programs.programs c.drivers.result.now c.in_err-config.field-0.0
    fault c.in_ok-programs.ensures c.drivers.ensures.drivers c.in_err-config.ensures.refused gives)

pub returns : goal.returns
returns c =
    start.started c.args.programs.now c.in_ok-programs.programs c.version.result c.drivers.result.now
    c.in_ok-config.config c.in_ok-programs.ensures c.version.ensures.version c.drivers.ensures.drivers
    c.in_ok-config.ensures.drivers.0 c.in_ok-config.ensures.drivers.1 c.in_ok-config.ensures.empty
