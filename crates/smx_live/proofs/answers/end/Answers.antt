use Rattle.smx_live.proofs.Common.{refl, NotDone, NoMemory}
use Rattle.smx_live.proofs.LiveStageLemmas.{answered_alone}
use Rattle.smx_live.proofs.answers.end.Goals as goal

pub returns-in-Err : goal.returns-in-Err
returns-in-Err g c =
    let talk = c.args.talk.now in
    let sink = c.say-in-Err.new.sink in
    λ explain. answered_alone explain talk.session talk.session talk.progress talk.progress c.args.line.now
    c.line_of_fault.result.now
    (g.S.Sink.contents c.args.sink.now) (g.S.Sink.contents sink) (g.S.Sink.flushed sink) (g.S.Sink.failures sink)
    (NotDone NoMemory) c.say-in-Err.result c.say-in-Err.ensures
    ((λ neither. absurd (neither.1 c.requires.asked)), refl, refl) refl c.line_of_fault.ensures
