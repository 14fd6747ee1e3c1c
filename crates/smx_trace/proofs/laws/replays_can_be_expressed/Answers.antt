use Rattle.smx_trace.proofs.QuietLemmas.{can_be_expressed}
use Rattle.smx_trace.proofs.laws.replays_can_be_expressed.Goals as goal

pub returns : goal.returns
returns c =
    can_be_expressed c.without_a_hangup_none_is_reported.ensures.replies
    c.without_a_hangup_none_is_reported.ensures.streams
