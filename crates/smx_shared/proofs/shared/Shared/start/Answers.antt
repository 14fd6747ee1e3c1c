use Rattle.std.proofs.Common.{rules, ◌≡◌, ◌<◌, [], true, ap, ap₂, sym, subst, arith, ◌∙◌}
use Rattle.smx_shared.specs.SeatViews.{Mine, unnamed, with_next_name, without_right, view_beside, seated_of}
use Rattle.smx_shared.proofs.CallLemmas.{one_seat_more}
use Rattle.smx_shared.proofs.SeatStepLemmas.{calls, deals}
use Rattle.smx_shared.proofs.shared.Shared.start.Goals as goal

pub fetch_add-requires : goal.fetch_add-requires
fetch_add-requires g c =
    let next = c.loop-number.invariant.next in
    let name : c.loop-number.token.me.0.next ≡ c.loop-number.number = ap (λ (m : Mine). m.0.next) next in
    let below : c.loop-number.token.me.0.next < c.in_ok-turns.turns.table.shared.key.processes =
    omega (arith, name, c.loop-number-test.true, c.in_ok-turns.ensures.start.1) in (
      c.loop-number.invariant.table,
      search rules,
      calls _ _ _ _ _ _ _ (ap (λ (m : Mine). m.0.spent) next) (ap (λ (m : Mine). m.0.turn) next)
          (ap (λ (m : Mine). m.0.may_name) next) (omega (arith, name, c.loop-number-test.true, c.requires.1)) below,
    )

pub split_seat-next-requires : goal.split_seat-next-requires
split_seat-next-requires g c =
    (c.fetch_add.ensures.0 ∙ c.loop-number.invariant.table, search rules, deals _ _ _ _ _ _)

pub loop-number-preserved : goal.loop-number-preserved
loop-number-preserved g c =
    let before = c.loop-number.invariant in
    let named = c.fetch_add.ensures in
    let dealt = c.split_seat-next.ensures in
    let was : c.fetch_add.new.seat.me ≡ (with_next_name (unnamed c.args.system true c.loop-number.number), []) =
    named.2.1 ∙ ap (λ (m : Mine). (with_next_name m.0, m.1)) before.next in
    let seat : c.split_seat-next.new.seat.me.0
    ≡ without_right (with_next_name (unnamed c.args.system true c.loop-number.number)) =
    ap (λ (m : Mine). m.0) dealt.2 ∙ ap (λ (m : Mine). without_right m.0) was in
    let number : c.unwrap-process.result ≡ c.loop-number.number = search rules in
    record {
      room = search rules;
      counted = search rules;
      seats = one_seat_more _ _ _ _ _ _ before.seats (ap₂ seated_of (dealt.0 ∙ named.0 ∙ before.table) seat)
          c.push_reserved.ensures.items;
      table = dealt.3 ∙ named.0 ∙ before.table;
      next = dealt.4 ∙ ap (λ (m : Mine). (view_beside m.0, [])) was;
    }
