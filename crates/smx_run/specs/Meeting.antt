-- The knowledge of seats that have met.
use Rattle.std.specs.Prelude.{◌≡◌}
use Rattle.smx_shared.specs.Recorded.{Recorded}
use Rattle.smx_shared.specs.Seats.{Seated, IsMetBy, IsNotMet, met_seat}
use Rattle.smx_run.specs.declared.worker.EndedProgram.{EndedProgram}

-- what a seat knew when its program had ended holds of a system
abbrev pub IsBorneOutBy : Recorded → EndedProgram Seated → Type 0
IsBorneOutBy s done = IsMetBy s (met_seat done.seat.known)

-- the process that has ended is the seat's own, or the seat has met it
abbrev pub IsKnownTo : Seated → EndedProgram Seated → Type 0
IsKnownTo seat done = IsNotMet done.seat.known.process seat.met → done.seat.known.process ≡ seat.known.process
