use Rattle.smx_text.proofs.MachineLemmas.{nothing_begun}
use Rattle.smx_text.proofs.ProgramsMachineLemmas.{reader}
use Rattle.smx_text.proofs.programs.read_programs.Goals as goal

pub read-requires : goal.read-requires
read-requires c version = nothing_begun (reader version)
