use Rattle.smx_text.proofs.MachineLemmas.{nothing_begun}
use Rattle.smx_text.proofs.TranscriptDrafts.{new_view}
use Rattle.smx_text.proofs.TranscriptMachineLemmas.{reader}
use Rattle.smx_text.proofs.transcript.read_transcript.Goals as goal

pub read-requires : goal.read-requires
read-requires c version = nothing_begun (reader version (new_view 0 0))
