use Rattle.std.proofs.Common.{arith}
use Rattle.smx_live.proofs.TalkLemmas.{changes_are}
use Rattle.smx_live.proofs.talk.Talk.perform.Goals as goal

pub returns-in-Ok-perform-clause-answered : goal.returns-in-Ok-perform-clause-answered
returns-in-Ok-perform-clause-answered c =
    let s = c.args.self.now.session in
    let told = c.in_ok-tell-in-Ok-perform.ensures in
    let p = rw c.make_room.ensures.session at c.in-Ok-perform.ensures.ok in
    let changes = changes_are c.args.self.now.progress.tracing s c.perform.new.self c.in-Ok.before c.in-Ok.ensures.view
    p.drivers in
    rw told.session (
      p.entry,
      record {
        performs = p;
        last = p.last;
        spelled = rw p.last at told.fits;
        room = omega (arith, c.if-self-ge-MAX_COMMANDS.false);
        counted = rw c.make_room.ensures.progress at told.count;
        tracing = rw c.make_room.ensures.progress at told.tracing;
      },
      rw (changes, p.last) at told.text,
    )
