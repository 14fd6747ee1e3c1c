-- A system stays sound with one more entry.
use Rattle.std.proofs.Common.{◌≡◌, ℕ, ◌<◌, ◌≤◌, List, [], ◌∷◌, ◌++◌, length, arith, sym, ap, ◌∙◌}
use Rattle.std.proofs.lemmas.List.{length-append}
use Rattle.smx_types.specs.declared.command.Entry.{Entry}
use Rattle.smx_types.specs.declared.driver.DriverSpec.{DriverSpec}
use Rattle.smx_types.specs.declared.reply.Reply.{Reply}
use Rattle.smx_types.specs.declared.limits.TheConstants.{MAX_COMMANDS}
use Rattle.smx_model.specs.Commands.{step}
use Rattle.smx_model.specs.Configuration.{Configuration, empty}
use Rattle.smx_model.specs.DriverList.{IsDriverList}
use Rattle.smx_model.specs.Histories.{IsLegal, after}
use Rattle.smx_model.proofs.HistoryLemmas.{after_push, lawful_throughout, legal_push}
use Rattle.smx_config.specs.Machine.{Machine}
use Rattle.smx_shared.specs.Recorded.{IsRecord}

-- with no entry yet there is nothing to prove of the history
pub none_yet : (m : Machine) (drivers : List DriverSpec) (limit : ℕ) (es : List Entry) →
    es ≡ [] → limit ≤ MAX_COMMANDS → (m.drivers ≡ drivers) × IsDriverList drivers → m.configuration ≡ empty →
    IsRecord m limit es
none_yet m drivers limit es none few can is_empty = rw none (record {
  sound = record {
    valid_drivers = rw can.0 can.1;
    within = omega arith;
    limited = few;
    legal = tt;
    lawful = lawful_throughout m.drivers [] tt;
  };
  now = is_empty;
})

-- a step of the configuration and its entry, if there is room for it, keep the two in agreement
pub one_entry_more : (m new : Machine) (limit : ℕ) (es more : List Entry) (e : Entry) →
    IsRecord m limit es → length es < limit →
    new.drivers ≡ m.drivers → step m.drivers m.configuration e.process e.command ≡ (new.configuration, e.reply) →
    more ≡ es ++ e ∷ [] → IsRecord new limit more
one_entry_more m new limit es more e h room same did added =
    let now : step m.drivers (after m.drivers es) e.process e.command ≡ (new.configuration, e.reply) =
    ap (λ (c : Configuration). step m.drivers c e.process e.command) (sym h.now) ∙ did in
    let reply = ap (λ (x : Configuration × Reply). x.1) now in
    let legal : IsLegal m.drivers (es ++ e ∷ []) = legal_push m.drivers es e h.sound.legal reply in
    rw (added, same) (record {
      sound = record {
        valid_drivers = h.sound.valid_drivers;
        within = omega (arith, room, length-append es (e ∷ []));
        limited = h.sound.limited;
        legal = legal;
        lawful = lawful_throughout m.drivers (es ++ e ∷ []) legal;
      };
      now = sym (after_push m.drivers es e ∙ ap (λ (x : Configuration × Reply). x.0) now);
    })
