use Rattle.std.proofs.Common.{◌≡◌, [], ◌∷◌}
use Rattle.std.proofs.lemmas.List.Elements.{All-cons, All-nil}
use Rattle.smx_run.specs.declared.worker.SeatedProgram.{SeatedProgram}
use Rattle.smx_shared_tests.specs.declared.tests.doors.OwnSeat.{OwnSeat}
use Rattle.smx_shared_tests.proofs.tests.doors.assigned.Goals as goal

pub returns : goal.returns
returns g c =
    let items = rw c.expect.ensures at c.vec-both.ensures.items in
    let fresh = λ (j : SeatedProgram OwnSeat). j.seat.system.history ≡ [] in
    rw items (All-cons fresh c.job_of.result (c.job_of-2.result ∷ []) c.job_of.ensures
    (All-cons fresh c.job_of-2.result [] c.job_of-2.ensures (All-nil fresh)))
