use Rattle.smx_live.proofs.Common.{refl, subst, State, Progress, Entered}
use Rattle.smx_live.specs.LiveTurns.{TakesTurn}
use Rattle.smx_live.proofs.LiveStageLemmas.{answered_with}
use Rattle.smx_live.proofs.answers.call.Goals as goal

pub returns-in-None : goal.returns-in-None
returns-in-None g c =
    let talk = c.args.talk.now in
    let next = c.perform.new.self in
    let sink = c.say.new.sink in
    let (e, did, is) = rw c.in-None.is at c.in_ok-perform.ensures.answered in
    answered_with c.args.explain talk.session next.session talk.progress next.progress c.args.line.now
    c.as_slice.result.now (g.S.Sink.contents c.args.sink.now) (g.S.Sink.contents sink) (g.S.Sink.flushed sink)
    (g.S.Sink.failures sink) (Entered e) _ c.say.result c.say.ensures did refl (rw is at c.as_slice.ensures.value)

pub returns-in-Some : goal.returns-in-Some
returns-in-Some g c =
    let did = rw c.in-Some.is at c.in_ok-perform.ensures.answered in
    let next = c.perform.new.self in
    let sink = c.refuse.new.sink in
    let Takes : State → Progress → Type 0 = λ s far. TakesTurn c.args.explain s far c.args.line.now next.session
    next.progress (g.S.Sink.contents c.args.sink.now) (g.S.Sink.contents sink) (g.S.Sink.flushed sink)
    (g.S.Sink.failures sink) c.refuse.result in
    subst (λ (s : State). Takes s c.args.talk.now.progress) did.1
    (subst (λ (far : Progress). Takes next.session far) did.2 c.refuse.ensures)
