use Rattle.std.proofs.Common.{rules, ◌≡◌, [], ◌∷◌, Some}
use Rattle.smx_shared.proofs.SeatStepLemmas.{opens}
use Rattle.smx_shared.proofs.turn_table.TurnTable.open.Goals as goal

pub new-requires-2 : goal.new-requires-2
new-requires-2 g c =
    let items : c.push_reserved.new.self.items ≡ Some c.args.system ∷ [] = search rules in
    rw (c.of.ensures, items)
    (opens c.args.system c.args.processes _ c.front_word-front.ensures.word c.front_word-front.ensures.sound)
