use Rattle.smx_config.proofs.Common.{◌≡◌, IsSound, AreMarks, AreHops}
use Rattle.smx_model.specs.Settling.{after_settling, after_settling_within}
use Rattle.smx_config.proofs.settling.settle_marked.Given as goal

abbrev pub decreases-loop-left : goal.decreases-loop-left
decreases-loop-left l = l.left

abbrev pub invariant-loop-left : goal.invariant-loop-left
invariant-loop-left l = record {
  drivers : l.tables.drivers ≡ l.initial.tables.drivers;
  comes_to : after_settling_within l.tables.drivers l.left l.tables.configuration
      ≡ after_settling l.initial.tables.drivers l.initial.tables.configuration;
  sound : IsSound l.tables.drivers l.tables.configuration;
  marks : AreMarks l.tables.drivers l.tables.configuration l.marks;
  hops : AreHops l.tables.drivers l.tables.configuration l.hops;
}
