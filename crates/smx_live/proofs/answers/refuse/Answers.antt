use Rattle.smx_live.proofs.Common.{◌≡◌, ◌∙◌, refl, rules, true, NoCommand, NotDone}
use Rattle.smx_live.proofs.LiveStageLemmas.{answered_alone, answered_with, unexplained}
use Rattle.smx_live.proofs.answers.refuse.Goals as goal
use Rattle.smx_live.proofs.answers.refuse.Goals.{else-explain-via-then-explain+else-eq, else-explain-via-else-explain}

pub returns-then-eq : goal.returns-then-eq
returns-then-eq g c =
    let talk = c.args.talk.now in
    let sink = c.say.new.sink in
    let no_command : c.args.fault ≡ NoCommand = search rules in
    let (below, told, is) = c.in_ok-text.ensures in
    answered_with c.args.explain talk.session talk.session talk.progress talk.progress c.args.line.now
    c.as_slice.result.now (g.S.Sink.contents c.args.sink.now) (g.S.Sink.contents sink) (g.S.Sink.flushed sink)
    (g.S.Sink.failures sink) (NotDone c.args.fault) below c.say.result c.say.ensures (c.requires.refused, refl, refl)
    (rw (no_command, c.if-explain.true) (rw c.version.ensures at told))
    (rw no_command (c.as_slice.ensures.value ∙ is))

pub returns : goal.returns
returns g c =
    let talk = c.args.talk.now in
    let other : (c.args.fault ≡ NoCommand) × (c.args.explain ≡ true) → ⊥ = λ is. elim c.else-explain.branch [
      | else-explain-via-then-explain+else-eq w ↦ let apart : c.args.fault ≡ NoCommand → ⊥ = search rules in
          apart is.0
      | else-explain-via-else-explain w ↦ absurd (cc (is.1, w.if-explain.false))
    ] in
    let sink = c.say-2.new.sink in
    answered_alone c.args.explain talk.session talk.session talk.progress talk.progress c.args.line.now
    c.line_of_fault.result.now (g.S.Sink.contents c.args.sink.now) (g.S.Sink.contents sink) (g.S.Sink.flushed sink)
    (g.S.Sink.failures sink) (NotDone c.args.fault) c.say-2.result c.say-2.ensures (c.requires.refused, refl, refl)
    (unexplained c.args.explain c.args.fault other talk.session.version talk.session.drivers
    talk.progress.tracing talk.session.configuration talk.session.configuration c.args.line.now)
    c.line_of_fault.ensures
