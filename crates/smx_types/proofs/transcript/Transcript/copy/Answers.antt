use Rattle.std.proofs.Common.{refl}
use Rattle.smx_types.proofs.transcript.Transcript.copy.Goals as goal

pub returns : goal.returns
returns c = rw (c.in_ok-copy.ensures, c.in_ok-copy-2.ensures, c.in_ok-copy-3.ensures) refl
