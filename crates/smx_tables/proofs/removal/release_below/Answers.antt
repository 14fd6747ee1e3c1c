use Rattle.smx_tables.proofs.Common.{take, ◌++◌, ◌∷◌, [], length-append, refl, sym, ap, subst, ◌∙◌, arith, and_parts}
use Rattle.smx_tables.proofs.Common.{same_stream, is_loose, is_watched, AreReleased}
use Rattle.std.proofs.Common.{length}
use Rattle.smx_model.proofs.TestLemmas.{any_push}
use Rattle.smx_tables.proofs.HungLemmas.{left_twice, none_went, there_before}
use Rattle.smx_tables.proofs.OrphanIdLemmas.{one_released}
use Rattle.smx_tables.proofs.ReleaseLemmas.{less_there, less_this, link_at, one_at, releases_this}
use Rattle.smx_tables.proofs.TouchLemmas.{still_touched}
use Rattle.smx_tables.proofs.WatchLemmas.{all_at, all_more, all_watch_on, listed_last, none_by, released_is_watched}
use Rattle.smx_tables.proofs.WatchLemmas.{still_listed_before, watched_less}
use Rattle.smx_tables.proofs.removal.release_below.Goals as goal
use Rattle.smx_tables.proofs.removal.release_below.Goals.{then-is_loose_by, else-is_loose_by}

pub returns-then-not-may_have_loose-clause-cascade : goal.returns-then-not-may_have_loose-clause-cascade
returns-then-not-may_have_loose-clause-cascade c = record {
  releasing = c.requires.cascade.releasing;
  watched = none_by c.args.streams.now c.args.touched.now.items c.args.ctl c.args.links.now.links
      (sym c.may_have_loose.ensures.answer ∙ c.if-not-may_have_loose.true) c.requires.cascade.watched;
  enough = omega (arith, c.requires.cascade.enough, length-append c.args.touched.now.items (c.args.ctl ∷ []));
}

pub push_reserved-requires : goal.push_reserved-requires
push_reserved-requires c =
    let less = less_there c.args.links.now.links c.args.listed.now c.loop-link.link-index c.args.ctl c.loop-link.streams
    c.release-gone.new.self c.requires.listed (omega arith) (sym c.is_loose_by.ensures ∙ c.if-is_loose_by.true)
    c.release-gone.ensures.rest in
    omega (arith, less, c.loop-link.invariant.enough)

pub push_reserved-requires-then-is_loose_by : goal.push_reserved-requires-then-is_loose_by
push_reserved-requires-then-is_loose_by c =
    let less = less_there c.args.links.now.links c.args.listed.now c.loop-link.link-index c.args.ctl c.loop-link.streams
    c.release-gone.new.self c.requires.listed (omega arith) (sym c.is_loose_by.ensures ∙ c.if-is_loose_by.true)
    c.release-gone.ensures.rest in
    omega (arith, less, c.loop-link.invariant.gone.enough)

pub loop-link-init : goal.loop-link-init
loop-link-init c = record {
  fds = refl;
  minors = refl;
  hungs = none_went c.args.streams.now c.may_have_loose.ensures.sound;
  there = λ s h. h;
  releasing = c.requires.cascade.releasing;
  all = c.requires.cascade.watched;
  so_far = refl;
  enough = omega (arith, c.requires.cascade.enough, length-append c.args.touched.now.items (c.args.ctl ∷ []));
  less = omega arith;
  touched = λ s h. h;
  gone = c.requires.gone;
}

pub loop-link-preserved : goal.loop-link-preserved
loop-link-preserved c =
    let link = link_at c.args.listed.now c.loop-link.link-index in
    elim c.if-is_loose_by.branch [
      | then-is_loose_by w ↦
          let loose = (and_parts (same_stream link.ctl c.args.ctl)
          (is_loose c.loop-link.streams link) (sym c.is_loose_by.ensures ∙ w.if-is_loose_by.true)).1 in
          let at = one_at c.args.links.now.links c.args.listed.now c.loop-link.link-index
          c.requires.listed (omega arith) in
          let less = less_this c.args.links.now.links c.loop-link.link-index link c.loop-link.streams
          w.release-gone.new.self at loose w.release-gone.ensures.rest in
          let pushed = w.push_reserved.ensures.items in
          let longer = ap length pushed in
          let one_more = length-append c.loop-link.touched.items (link.lower ∷ []) in
          rw (w.streams-is, w.touched-is, w.gone-is) (record {
            fds = w.release-gone.ensures.rest.fds ∙ c.loop-link.invariant.fds;
            minors = w.release-gone.ensures.rest.minors ∙ c.loop-link.invariant.minors;
            hungs = left_twice c.args.streams.now c.loop-link.streams w.release-gone.new.self
                c.loop-link.invariant.hungs
                w.release-gone.ensures.rest.hungs
                (λ x. there_before c.loop-link.streams w.release-gone.new.self link.lower x _
                w.release-gone.ensures.rest (omega arith));
            there = λ x h. c.loop-link.invariant.there x
                (there_before c.loop-link.streams w.release-gone.new.self link.lower x _
                w.release-gone.ensures.rest (omega arith) h);
            releasing = λ n. releases_this c.args.links.now.links n c.loop-link.link-index link c.loop-link.streams
                w.release-gone.new.self c.requires.sound.sound.lowers at loose w.release-gone.ensures.rest
                (c.loop-link.invariant.releasing n);
            all = rw pushed (all_watch_on c.loop-link.streams w.release-gone.new.self link.lower
                (c.loop-link.touched.items ++ c.args.ctl ∷ [])
                ((c.loop-link.touched.items ++ link.lower ∷ []) ++ c.args.ctl ∷ []) c.args.links.now.links
                w.release-gone.ensures.rest
                (λ x. still_listed_before x c.loop-link.touched.items link.lower c.args.ctl)
                (any_push (same_stream link.lower) (c.loop-link.touched.items ++ link.lower ∷ []) c.args.ctl
                (listed_last c.loop-link.touched.items link.lower)) c.loop-link.invariant.all);
            so_far = rw pushed
                (all_more (is_watched w.release-gone.new.self (c.loop-link.touched.items ++ link.lower ∷ []))
                c.args.links.now.links c.loop-link.link-index link at
                (all_watch_on c.loop-link.streams w.release-gone.new.self link.lower c.loop-link.touched.items
                (c.loop-link.touched.items ++ link.lower ∷ [])
                (take c.loop-link.link-index c.args.links.now.links) w.release-gone.ensures.rest
                (λ x. any_push (same_stream x) c.loop-link.touched.items link.lower)
                (listed_last c.loop-link.touched.items link.lower) c.loop-link.invariant.so_far)
                (released_is_watched c.args.links.now.links c.loop-link.streams w.release-gone.new.self
                (c.loop-link.touched.items ++ link.lower ∷ []) link
                (c.loop-link.invariant.releasing 0).once w.release-gone.ensures.rest));
            enough =
                omega (arith, less, longer, one_more, c.loop-link.invariant.enough, w.push_reserved.ensures.capacity);
            less = omega (arith, less, longer, one_more, c.loop-link.invariant.less);
            touched = rw pushed
                (λ x there. still_touched c.loop-link.streams w.release-gone.new.self c.loop-link.touched.items
                link.lower _ w.release-gone.ensures.rest x (c.loop-link.invariant.touched x there));
            gone = subst
                (AreReleased c.args.links.now.links w.release-gone.new.self
                w.push_reserved-then-is_loose_by.new.self.items)
                (sym w.push_reserved-then-is_loose_by.ensures.capacity)
                (one_released c.args.links.now.links c.loop-link.link-index _ link c.loop-link.streams
                w.release-gone.new.self c.loop-link.gone.items w.push_reserved-then-is_loose_by.new.self.items
                c.requires.sound.sound.lowers c.requires.sound.ids.rise at loose
                (c.loop-link.invariant.releasing 0) w.release-gone.ensures.rest
                w.push_reserved-then-is_loose_by.ensures.items less c.loop-link.invariant.gone);
          })
      | else-is_loose_by w ↦
          let at = one_at c.args.links.now.links c.args.listed.now c.loop-link.link-index
          c.requires.listed (omega arith) in
          rw (w.streams-is, w.touched-is, w.gone-is) (record {
            fds = c.loop-link.invariant.fds;
            minors = c.loop-link.invariant.minors;
            hungs = c.loop-link.invariant.hungs;
            there = c.loop-link.invariant.there;
            releasing = c.loop-link.invariant.releasing;
            all = c.loop-link.invariant.all;
            so_far = all_more (is_watched c.loop-link.streams c.loop-link.touched.items)
                c.args.links.now.links c.loop-link.link-index link at c.loop-link.invariant.so_far
                (watched_less c.loop-link.streams c.loop-link.touched.items c.args.ctl link
                (sym c.is_loose_by.ensures ∙ w.if-is_loose_by.false)
                (all_at (is_watched c.loop-link.streams (c.loop-link.touched.items ++ c.args.ctl ∷ []))
                c.args.links.now.links
                c.loop-link.link-index link at c.loop-link.invariant.all));
            enough = c.loop-link.invariant.enough;
            less = c.loop-link.invariant.less;
            touched = c.loop-link.invariant.touched;
            gone = c.loop-link.invariant.gone;
          })
    ]
