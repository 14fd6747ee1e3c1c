use Rattle.smx_shared.proofs.laws_of_systems.legal_systems_are_sound.Goals as goal

pub returns : goal.returns
returns c = λ s can limited within legal. record {
  valid_drivers = can;
  within = within;
  limited = limited;
  legal = legal;
  lawful = c.lawful_after_each_entry.ensures s.drivers s.history legal;
}
