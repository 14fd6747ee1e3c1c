use Rattle.std.proofs.Common.{arith}
use Rattle.smx_shared.specs.SeatViews.{IsWordFrom}
use Rattle.smx_shared.proofs.CallLemmas.{ends_as, from_held, from_small, goes_on_from}
use Rattle.smx_shared.proofs.TellLemmas.{closes}
use Rattle.smx_shared.proofs.shared.Shared.close.Goals as goal

pub read-requires : goal.read-requires
read-requires g c =
    let v = c.seat.inside.token.me.0 in
    let end = closes _ _ _ _ _ v _ _ c.word-word.result c.take-slot.result c.close_with-closed.ensures.values.2
    c.seat.invariant.0.2 c.word-word.ensures c.take-slot.ensures.value in
    from_small v _ record { history = end.0; seen = end.2; sound = end.1; front = end.5 }

pub returns-then-word-ne0-clause-held : goal.returns-then-word-ne0-clause-held
returns-then-word-ne0-clause-held g c =
    let v = c.seat.inside.token.me.0 in
    let end = closes _ _ _ _ _ v _ _ c.word-word.result c.take-slot.result c.close_with-closed.ensures.values.2
    c.seat.invariant.0.2 c.word-word.ensures c.take-slot.ensures.value in
    let word : IsWordFrom v c.word-word.result =
    record { history = end.0; seen = end.2; sound = end.1; front = end.5 } in
    rw (← c.seat.view_is)
    (from_held v _ c.read.result (omega (arith, c.if-word-ne0.true)) word c.read.ensures.word c.read.ensures.links)

pub returns-then-word-ne0-clause-alone : goal.returns-then-word-ne0-clause-alone
returns-then-word-ne0-clause-alone g c =
    let v = c.seat.inside.token.me.0 in
    let end = closes _ _ _ _ _ v _ _ c.word-word.result c.take-slot.result c.close_with-closed.ensures.values.2
    c.seat.invariant.0.2 c.word-word.ensures c.take-slot.ensures.value in
    rw (← c.seat.view_is, ← c.self.view_is)
    (λ all. absurd (c.if-word-ne0.true (end.10 c.seat.invariant.1 c.seat.invariant.0.1 all)))

pub unreachable-requires : goal.unreachable-requires
unreachable-requires g c =
    let v = c.seat.inside.token.me.0 in
    let end = closes _ _ _ _ _ v _ _ c.word-word.result c.take-slot.result c.close_with-closed.ensures.values.2
    c.seat.invariant.0.2 c.word-word.ensures c.take-slot.ensures.value in
    let there = end.6 c.if-word-ne0.false in
    let none = c.in-None.is in
    cc

pub returns-clause-ends : goal.returns-clause-ends
returns-clause-ends g c =
    let v = c.seat.inside.token.me.0 in
    let end = closes _ _ _ _ _ v _ _ c.word-word.result c.take-slot.result c.close_with-closed.ensures.values.2
    c.seat.invariant.0.2 c.word-word.ensures c.take-slot.ensures.value in
    rw (← c.seat.view_is, c.into_inner.ensures, c.boxed.view_is)
    (ends_as v c.take-slot.result c.in-Some.boxed end.0 c.in-Some.is
    (end.6 c.if-word-ne0.false) c.seat.invariant.1 end.1 end.2 end.3 end.4)

pub returns-clause-begun : goal.returns-clause-begun
returns-clause-begun g c =
    let v = c.seat.inside.token.me.0 in
    let end = closes _ _ _ _ _ v _ _ c.word-word.result c.take-slot.result c.close_with-closed.ensures.values.2
    c.seat.invariant.0.2 c.word-word.ensures c.take-slot.ensures.value in
    rw (← c.self.view_is, c.into_inner.ensures, c.boxed.view_is)
    (goes_on_from _ v c.take-slot.result c.in-Some.boxed end.0 c.in-Some.is
    (end.6 c.if-word-ne0.false) end.7 end.8 end.9)
