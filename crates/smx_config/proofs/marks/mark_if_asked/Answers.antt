use Rattle.smx_config.proofs.Common.{◌≡◌, ℕ, true, refl, subst, has_bit}
use Rattle.smx_queues.proofs.PlacesOfLemmas.{same_number}
use Rattle.smx_config.proofs.PlaceNumberLemmas.{none_found}
use Rattle.smx_config.proofs.marks.mark_if_asked.Goals as goal

pub returns-then-is_some_and : goal.returns-then-is_some_and
returns-then-is_some_and c = record {
  here = λ i at has. subst (λ (x : ℕ). has_bit c.set.new.self x ≡ true)
      (same_number c.args.tables.now.drivers c.in-Some.n i c.args.place
      (rw c.queues.ensures.drivers at c.in-Some.ensures.found) at) c.set.ensures.here;
  kept = c.set.ensures.kept;
  count = c.set.ensures.count;
}

pub returns-in_default : goal.returns-in_default
returns-in_default c = record {
  here = λ i at has. absurd (none_found c.args.tables.now.drivers c.args.place c.number.result c.in_default.is
      (rw c.queues.ensures.drivers at c.number.ensures.known) i at);
  kept = λ i h. h;
  count = refl;
}
