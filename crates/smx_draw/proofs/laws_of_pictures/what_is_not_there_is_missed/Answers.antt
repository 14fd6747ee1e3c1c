use Rattle.std.proofs.Common.{refl, rules}
use Rattle.smx_draw.proofs.DrawingLemmas.{nothing_in}
use Rattle.smx_draw.proofs.laws_of_pictures.what_is_not_there_is_missed.Goals as goal

pub returns-clause-each : goal.returns-clause-each
returns-clause-each c = record {
  drivers = record { svg = λ h. nothing_in _ refl h.rows.0.1; dot = λ h. nothing_in _ refl h.0 };
  descriptors = record { svg = λ h. nothing_in _ refl h.rows.0.1; dot = λ h. nothing_in _ refl h.0 };
  links = record { svg = λ h. nothing_in _ refl h.rows.0.1; dot = λ h. nothing_in _ refl h.0 };
  bindings = record { svg = λ h. nothing_in _ refl h.rows.0.1; dot = λ h. nothing_in _ refl h.0 };
  routes = record { svg = λ h. nothing_in _ refl h.rows.0.1; dot = λ h. nothing_in _ refl h.0 };
  messages = record { svg = λ h. nothing_in _ refl h.rows.0.1; dot = λ h. nothing_in _ refl h.0 };
  fulls = record { svg = λ h. nothing_in _ refl h.rows.0.1; dot = λ h. nothing_in _ refl h.0 };
  hungs = record { svg = λ h. nothing_in _ refl h.rows.0.1; dot = λ h. nothing_in _ refl h.0 };
}

pub returns-clause-nothing : goal.returns-clause-nothing
returns-clause-nothing c = search rules
