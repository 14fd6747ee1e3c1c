use Rattle.std.proofs.Common.{rules}
use Rattle.smx_text.proofs.GrowingLemmas.{begun}
use Rattle.smx_text.proofs.write.transcript_opening.Goals as goal

pub returns : goal.returns
returns c =
    let opening = c.in_ok-write_opening.ensures in
    begun c.args.version c.args.drivers.now _ (search rules) opening.fits
