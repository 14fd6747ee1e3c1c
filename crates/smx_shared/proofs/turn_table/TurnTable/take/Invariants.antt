use Rattle.std.proofs.Common.{◌≡◌, ◌≤◌, true}
use Rattle.smx_shared.specs.SeatViews.{IsAtRest, HasGrown}
use Rattle.smx_shared.specs.declared.turn_table.TheConstants.{MOST_TRIES}
use Rattle.smx_shared.proofs.turn_table.TurnTable.take.Given as goal

abbrev pub invariant-loop : goal.invariant-loop
invariant-loop g l = record {
  table : l.token.table_id ≡ l.initial.token.table_id;
  rest : IsAtRest l.token.me;
  named : l.token.me.0.named ≡ true;
  grown : HasGrown l.initial.token.me.0 l.token.me.0;
  own : l.token.me.0.own ≡ l.initial.token.me.0.own;
  tries : l.tries ≤ MOST_TRIES;
  goes_on : (goal.iterator-loop g).can_next l.iterator';
  ends : (goal.iterator-loop g).is_finite l.iterator';
}
