use Rattle.std.proofs.Common.{◌≡◌, ◌≤◌, [], true, map, vec_len}
use Rattle.std.specs.Prelude.{vec_capacity}
use Rattle.std.specs.List.{range_with_len}
use Rattle.smx_shared.specs.Seats.{first_seat}
use Rattle.smx_shared.specs.SeatViews.{unnamed}
use Rattle.smx_shared.proofs.shared.Shared.start.Given as goal

abbrev pub invariant-loop-number : goal.invariant-loop-number
invariant-loop-number g l = record {
  room : l.processes ≤ vec_capacity l.seats;
  counted : vec_len l.seats ≡ l.number;
  seats : l.seats.items ≡ map (first_seat l.turns.table.shared.table_id l.fn.system) (range_with_len 0 l.number);
  table : l.token.table_id ≡ l.turns.table.shared.table_id;
  next : l.token.me ≡ (unnamed l.fn.system true l.number, []);
}
