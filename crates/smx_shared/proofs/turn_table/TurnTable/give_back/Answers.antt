use Rattle.std.proofs.Common.{rules, ◌∙◌, ap, subst}
use Rattle.smx_shared.specs.Fronts.{front_of}
use Rattle.smx_shared.specs.Recorded.{IsSoundSystem, Recorded}
use Rattle.smx_shared.proofs.StepLemmas.{publishes}
use Rattle.smx_shared.proofs.TellLemmas.{ready}
use Rattle.smx_shared.proofs.turn_table.TurnTable.give_back.Goals as goal

pub store-requires : goal.store-requires
store-requires g c =
    let r = c.requires in
    let same = c.deref.ensures ∙ c.system.view_is in
    let sound = subst IsSoundSystem same c.front_word-front.ensures.sound in
    let word = c.front_word-front.ensures.word ∙ ap (λ (s : Recorded). front_of s.drivers s.history) same in
    let is = ready _ _ c.args.system _ r.turn.0 r.turn.1 r.same.0 r.same.1 r.more sound word c.exchange.ensures.3 in (
      c.exchange.ensures.0 ∙ r.table,
      search rules,
      publishes _ _ _ _ _ _ _ _ c.args.system.history is.has is.named is.more is.sound is.front,
    )
