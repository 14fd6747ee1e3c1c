use Rattle.std.proofs.Common.{◌≡◌, take}
use Rattle.smx_model.specs.Histories.{IsLegal, after}
use Rattle.smx_config.proofs.verdict.first_illegal.Given as goal

abbrev pub invariant-loop-i : goal.invariant-loop-i
invariant-loop-i l = record {
  drivers : l.config.drivers ≡ l.initial.config.drivers;
  now : l.config.configuration ≡ after l.initial.config.drivers (take l.i l.entries);
  legal : IsLegal l.initial.config.drivers (take l.i l.entries);
}
