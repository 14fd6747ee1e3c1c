use Rattle.smx_config.proofs.Common.{◌≡◌, ℕ, ◌<◌, length, subst, ap, ◌∙◌, places_of, at, Machine}
use Rattle.smx_model.specs.Configuration.{empty}
use Rattle.smx_model.proofs.FullPlaceLemmas.{empty_filled}
use Rattle.smx_model.proofs.KeptLemmas.{empty_kept}
use Rattle.smx_config.specs.Marking.{AreFor}
use Rattle.smx_config.proofs.NextMoveLemmas.{marks_at_first}
use Rattle.smx_config.proofs.config.Config.new.Goals as goal

pub invariant_of-result : goal.invariant_of-result
invariant_of-result c =
    let many : c.place_count-count.result ≡ length (places_of c.args.drivers.now) =
    c.place_count-count.ensures.count
    ∙ ap (λ d. length (places_of d)) c.queues.ensures.drivers
    ∙ ap (λ (m : Machine). length (places_of m.drivers)) c.in_ok-tables.ensures in
    record {
      kept = rw c.in_ok-tables.ensures (empty_kept c.args.drivers.now);
      filled = rw c.in_ok-tables.ensures empty_filled;
      marks = rw c.in_ok-tables.ensures (marks_at_first c.args.drivers.now c.in_ok-marks.marks
          (subst (λ (k : ℕ). AreFor k c.in_ok-marks.marks) many c.in_ok-marks.ensures.many)
          (subst (λ (k : ℕ). (n : ℕ) → n < k → at c.in_ok-marks.marks.waits.owners n ≡ 0) many
          c.in_ok-marks.ensures.waits));
      hops = rw c.in_ok-tables.ensures (c.in_ok-hops.ensures c.args.drivers.now empty many);
      none = c.in_ok-marks.ensures.run;
    }
