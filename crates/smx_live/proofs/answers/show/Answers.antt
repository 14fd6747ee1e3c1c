use Rattle.smx_live.proofs.Common.{◌∙◌, refl, view, NotDone, Shown, Progress, NoMemory}
use Rattle.smx_live.proofs.LiveStageLemmas.{answered_alone}
use Rattle.smx_live.proofs.answers.show.Goals as goal

pub returns-in-Ok : goal.returns-in-Ok
returns-in-Ok g c =
    let talk = c.args.talk.now in
    let sink = c.say.new.sink in
    let far : Progress = record { entries = talk.progress.entries; tracing = c.switched-talk.result } in
    λ explain. answered_alone explain talk.session talk.session talk.progress far c.args.line.now
    c.as_slice.result.now
    (g.S.Sink.contents c.args.sink.now) (g.S.Sink.contents sink) (g.S.Sink.flushed sink) (g.S.Sink.failures sink)
    (Shown (view talk.session.drivers talk.session.configuration)) c.say.result c.say.ensures
    (c.requires.asked, refl, refl, rw c.switched-talk.ensures) refl (c.as_slice.ensures.value ∙ c.in-Ok.ensures.written)

pub returns-in-Err : goal.returns-in-Err
returns-in-Err g c =
    let talk = c.args.talk.now in
    let sink = c.say-in-Err.new.sink in
    λ explain. answered_alone explain talk.session talk.session talk.progress talk.progress c.args.line.now
    c.line_of_fault.result.now
    (g.S.Sink.contents c.args.sink.now) (g.S.Sink.contents sink) (g.S.Sink.flushed sink) (g.S.Sink.failures sink)
    (NotDone NoMemory) c.say-in-Err.result c.say-in-Err.ensures
    ((λ neither. absurd (neither.0 c.requires.asked)), refl, refl) refl c.line_of_fault.ensures
