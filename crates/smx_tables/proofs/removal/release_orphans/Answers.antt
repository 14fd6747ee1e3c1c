use Rattle.smx_tables.proofs.Common.{◌≡◌, List, [], ◌∷◌, true, length-append, ap, sym, subst, ◌∙◌, arith, rules}
use Rattle.smx_tables.proofs.Common.{or_left, list_all, StreamId, is_watched}
use Rattle.std.proofs.Common.{length}
use Rattle.std.proofs.lemmas.List.{nil_from_length}
use Rattle.smx_streams.specs.StreamTables.{exists as is_there}
use Rattle.smx_tables.proofs.HungLemmas.{left_twice}
use Rattle.smx_tables.proofs.TouchLemmas.{none_loose_still, seen_more, touched_there}
use Rattle.smx_tables.proofs.WatchLemmas.{none_loose}
use Rattle.smx_tables.proofs.removal.release_orphans.Goals as goal

pub returns-then-has_each-clause-none : goal.returns-then-has_each-clause-none
returns-then-has_each-clause-none c = none_loose_still c.args.streams.now c.args.touched.now.items
    c.args.links.now.links
    (ap (list_all (is_there c.args.streams.now)) (sym c.as_slice.ensures.value) ∙ sym c.has_each.ensures.answer
    ∙ c.if-has_each.true)
    c.requires.cascade.watched

pub returns-then-has_each-clause-seen : goal.returns-then-has_each-clause-seen
returns-then-has_each-clause-seen c = λ s h. or_left _ _ (touched_there c.args.streams.now c.args.touched.now.items s
    (ap (list_all (is_there c.args.streams.now)) (sym c.as_slice.ensures.value) ∙ sym c.has_each.ensures.answer
    ∙ c.if-has_each.true) h)

pub loop-stream-preserved : goal.loop-stream-preserved
loop-stream-preserved c = record {
  fds = c.release_below.ensures.fds ∙ c.loop-stream.invariant.fds;
  minors = c.release_below.ensures.minors ∙ c.loop-stream.invariant.minors;
  hungs = left_twice c.args.streams.now c.loop-stream.streams c.release_below.new.streams c.loop-stream.invariant.hungs
      c.release_below.ensures.hungs c.release_below.ensures.there;
  cascade = c.release_below.ensures.cascade;
  room = omega (
    arith,
    c.loop-stream.invariant.room,
    c.release_below.ensures.less,
    ap length c.in-Some.ensures.items,
    length-append c.pop.new.self.items (c.in-Some.stream ∷ []),
    ap length c.push_reserved.ensures.items,
    length-append c.loop-stream.seen.items (c.in-Some.stream ∷ []),
    c.push_reserved.ensures.capacity,
  );
  seen = λ s h. rw c.push_reserved.ensures.items
      (seen_more c.loop-stream.streams c.release_below.new.streams c.loop-stream.touched.items c.pop.new.self.items
      c.release_below.new.touched.items c.loop-stream.seen.items c.in-Some.stream s c.in-Some.ensures.items
      c.release_below.ensures.touched (c.loop-stream.invariant.seen s h));
  gone = c.release_below.ensures.gone;
}

pub returns-clause-none : goal.returns-clause-none
returns-clause-none c =
    let none : length c.loop-stream.touched.items ≡ 0 = search rules in
    none_loose c.loop-stream.streams c.args.links.now.links
    (subst (λ (ss : List StreamId). list_all (is_watched c.loop-stream.streams ss) c.args.links.now.links ≡ true)
    (nil_from_length c.loop-stream.touched.items none) c.loop-stream.invariant.cascade.watched)
