use Rattle.smx_live.proofs.Common.{ℕ, List, [], ⊤, BeginsTranscript}
use Rattle.smx_live.proofs.LiveStageLemmas.{said}
use Rattle.smx_live.proofs.live.open.Goals as goal

pub returns : goal.returns
returns g c =
    let s = c.args.session.now in
    let sink = c.say.new.sink in
    let begins : BeginsTranscript s.version s.drivers [] c.as_slice.result.now =
    rw c.as_slice.ensures.value c.in_ok-text.ensures in
    said c.as_slice.result.now tt (λ done (t : List ℕ). BeginsTranscript s.version s.drivers [] t)
    (λ (t : List ℕ). BeginsTranscript s.version s.drivers [] t) ⊤ (g.S.Sink.contents c.args.sink.now)
    (g.S.Sink.contents sink) (g.S.Sink.flushed sink) (g.S.Sink.failures sink) c.say.result c.say.ensures
    begins begins
