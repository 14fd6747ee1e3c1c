use Rattle.smx_run.proofs.Common.{◌≡◌, ◌+◌, ◌≤◌, take, length, arith, sym, subst, ap, ◌∙◌}
use Rattle.std.proofs.lemmas.List.{length-take-le}
use Rattle.std.proofs.KnownBytes.{Consumes-trans}
use Rattle.std.specs.Io.KnownBytes.{Consumes}
use Rattle.smx_run.proofs.InputLemmas.{with_piece, failed_with, too_long_with}
use Rattle.smx_run.proofs.input.read_all.Goals as goal

pub returns-in_default : goal.returns-in_default
returns-in_default g c =
    let size = length-take-le c.reads.count c.reads.all.items
    (omega (arith, c.reads.invariant.within, c.reads.all.ok.0)) in
    failed_with _ _ _ _ _ (take c.reads.count c.reads.all.items) c.reads.invariant.so_far c.in_default.ensures.bytes
    c.in_default.ensures.failed (omega (arith, size, c.reads.invariant.few))

pub returns-then-count-gt-MAX_INPUT : goal.returns-then-count-gt-MAX_INPUT
returns-then-count-gt-MAX_INPUT g c =
    let size = length-take-le c.reads.count c.reads.all.items
    (omega (arith, c.reads.invariant.within, c.reads.all.ok.0)) in
    let more = length-take-le c.in-Ok.n c.read.new.buffer c.in-Ok.ensures.bound in
    too_long_with _ _ _ _ _ (take c.reads.count c.reads.all.items)
    (take c.in-Ok.n c.read.new.buffer) c.reads.invariant.so_far c.in-Ok.ensures.bytes.0 c.in-Ok.ensures.fine
    (omega (arith, size, more, c.if-count-gt-MAX_INPUT.true))
    (omega (
      arith,
      size,
      more,
      c.in-Ok.ensures.bound,
      c.read.auto.buffer,
      c.in_ok-make_room.ensures.room,
      c.deref_mut.ensures.len,
      c.make_room.ensures.most,
    ))

pub reads-preserved : goal.reads-preserved
reads-preserved g c =
    let held = c.deref_mut.result.now in
    let before = take c.reads.count held in
    let more = take c.in-Ok.n c.read.new.buffer in
    let was : before ≡ take c.reads.count c.reads.all.items = ap (take c.reads.count) c.deref_mut.ensures.value
    ∙ c.in_ok-make_room.ensures.kept in
    let size : length before ≡ c.reads.count = length-take-le c.reads.count held
    (omega (arith, c.in_ok-make_room.ensures.room, c.deref_mut.ensures.len)) in
    let fits : c.reads.count + c.in-Ok.n ≤ c.make_room.new.all.len = omega
    (arith, c.in-Ok.ensures.bound, c.read.auto.buffer, c.in_ok-make_room.ensures.room, c.deref_mut.ensures.len) in
    let now = with_piece before c.read.new.buffer _ _ c.reads.count c.make_room.new.all.len c.in-Ok.n size fits
    c.in-Ok.ensures.bound in
    let so_far : Consumes _ _ before = subst (Consumes _ _) (sym was) c.reads.invariant.so_far in
    record {
      within = fits;
      few = c.if-count-gt-MAX_INPUT.false;
      most = c.make_room.ensures.most;
      so_far = subst (Consumes _ _) (sym now) (Consumes-trans _ _ _ before more so_far c.in-Ok.ensures.bytes.0);
      before_the_end = c.in-Ok.ensures.more (omega (arith, c.if-n-eq0.false));
      fine = c.in-Ok.ensures.fine;
    }
