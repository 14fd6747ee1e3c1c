use Rattle.smx_tables.proofs.Common.{List, ℕ, [], ◌∷◌, ap, length-append, take, refl, sym, subst, ◌∙◌, arith}
use Rattle.smx_tables.proofs.Common.{take_more, AreHeld, or_left, others_of}
use Rattle.std.proofs.Common.{length}
use Rattle.std.proofs.lemmas.List.{take_all}
use Rattle.smx_tables.proofs.HungLemmas.{left_twice, none_went, there_before}
use Rattle.smx_tables.proofs.TouchLemmas.{still_touched}
use Rattle.smx_links.proofs.IdLemmas.{none_of_none}
use Rattle.smx_tables.proofs.ReleasedIdLemmas.{released_more, released_none}
use Rattle.smx_tables.proofs.removal.release_each.Goals as goal
use Rattle.smx_tables.proofs.removal.release_each.Goals.{in-Some, in_default}

pub loop-id-init : goal.loop-id-init
loop-id-init c = record {
  held = rw (none_of_none c.args.links.now.links) c.requires.held;
  fds = refl;
  minors = refl;
  hungs = none_went c.args.streams.now c.is_sound.ensures;
  touched = λ s there. or_left _ _ there;
  few = omega arith;
  capacity = refl;
}

pub loop-id-preserved : goal.loop-id-preserved
loop-id-preserved c = elim c.match-get.branch [
  | in-Some w ↦
      let pushed = w.push_reserved.ensures.items in
      let longer = ap length pushed in
      let one_more = length-append c.loop-id.touched.items (w.in-Some.link.now.lower ∷ []) in
      rw (w.streams-is, w.touched-is) (record {
        held = subst (λ (ids : List ℕ). AreHeld (others_of ids c.args.links.now.links) w.release_held.new.streams)
            (sym (take_more c.args.gone.now c.loop-id.id-index 0 (omega arith)))
            (released_more c.args.links.now.links (take c.loop-id.id-index c.args.gone.now) _ w.in-Some.link.now
            c.loop-id.streams w.release_held.new.streams w.in-Some.ensures.sound.sound.lowers
            w.in-Some.ensures.sound.ids.rise
            (sym w.in-Some.ensures.value) c.loop-id.invariant.held w.release_held.ensures);
        fds = w.release_held.ensures.fds ∙ c.loop-id.invariant.fds;
        minors = w.release_held.ensures.minors ∙ c.loop-id.invariant.minors;
        hungs = left_twice c.args.streams.now c.loop-id.streams w.release_held.new.streams c.loop-id.invariant.hungs
            w.release_held.ensures.hungs
            (λ x. there_before c.loop-id.streams w.release_held.new.streams w.in-Some.link.now.lower x 0
            w.release_held.ensures (omega arith));
        touched = rw pushed
            (λ x there. still_touched c.loop-id.streams w.release_held.new.streams c.loop-id.touched.items
            w.in-Some.link.now.lower 0 w.release_held.ensures x (c.loop-id.invariant.touched x there));
        few = omega (arith, longer, one_more, c.loop-id.invariant.few);
        capacity = w.push_reserved.ensures.capacity ∙ c.loop-id.invariant.capacity;
      })
  | in_default w ↦ rw (w.streams-is, w.touched-is) (record {
    held = subst (λ (ids : List ℕ). AreHeld (others_of ids c.args.links.now.links) c.loop-id.streams)
        (sym (take_more c.args.gone.now c.loop-id.id-index 0 (omega arith)))
        (released_none c.args.links.now.links (take c.loop-id.id-index c.args.gone.now) _ c.loop-id.streams
        w.in_default.ensures.sound.sound.lowers w.in_default.ensures.sound.ids.rise (sym w.in_default.ensures.value)
        c.loop-id.invariant.held);
    fds = c.loop-id.invariant.fds;
    minors = c.loop-id.invariant.minors;
    hungs = c.loop-id.invariant.hungs;
    touched = c.loop-id.invariant.touched;
    few = omega (arith, c.loop-id.invariant.few);
    capacity = c.loop-id.invariant.capacity;
  })
]

pub returns-clause-held : goal.returns-clause-held
returns-clause-held c = subst (λ (ids : List ℕ). AreHeld (others_of ids c.args.links.now.links) c.loop-id.streams)
    (take_all c.loop-id.id-index c.args.gone.now (omega arith)) c.loop-id.invariant.held
