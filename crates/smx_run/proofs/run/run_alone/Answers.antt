use Rattle.smx_run.proofs.Common.{rules, ◌≡◌, ◌≢◌, ◌+◌, ◌++◌, ◌∷◌, [], List, ℕ, length, map, ap, sym, subst, arith}
use Rattle.smx_run.proofs.Common.{◌∙◌, length-append, Command, Entry, call_of, AreFrontsFrom, calls_of, calls_from}
use Rattle.std.proofs.Common.{Err}
use Rattle.std.proofs.lemmas.Result.{err_from_is_err_and}
use Rattle.smx_types.specs.declared.driver.DriverSpec.{DriverSpec}
use Rattle.smx_shared.specs.declared.shared_fault.ApplyFault.TheVariants as apply
use Rattle.smx_run.specs.ProgramOrder.{BeginsCalls}
use Rattle.smx_run.proofs.StopLemmas.{left_of, memory_left, room_left}
use Rattle.smx_run.proofs.RunLemmas.{calls_more, front_next, next_taken}
use Rattle.smx_run.proofs.run.run_alone.Goals as goal

pub loop-commands-preserved : goal.loop-commands-preserved
loop-commands-preserved g c =
    let before = c.loop-commands.invariant in
    let did = c.in_ok-perform_all.ensures.performed in
    let commands = c.in-Some.commands in
    let p : ℕ = c.unwrap.result in
    let number : p ≡ 0 + length c.loop-commands.yielded = search rules in
    let calls = did.calls ∙ ap (λ (cs : List (ℕ × Command)). cs ++ calls_of p commands) before.calls
    ∙ sym (calls_more 0 p c.loop-commands.yielded commands number) in
    let was = subst
    (λ (ds : List DriverSpec). AreFrontsFrom ds c.loop-commands.system.history 0 c.loop-commands.yielded
    c.loop-commands.fronts.items) (sym did.drivers) before.fronts in
    record {
      drivers = did.drivers ∙ before.drivers;
      limit = did.limit ∙ before.limit;
      sound = c.perform_all.ensures.sound before.sound;
      all = next_taken _ _ _ _ commands before.all c.in-Some.ensures.steps.0;
      counted = omega (arith, before.counted, c.in-Some.ensures.steps.1, ap length c.in-Some.ensures.steps.0);
      within = omega (arith, before.within, ap length c.in-Some.ensures.steps.0);
      number = omega (arith, before.number, length-append c.loop-commands.yielded (commands ∷ []));
      room = omega (arith, before.room, c.push_reserved.ensures.capacity);
      seen = omega (
        arith,
        before.seen,
        c.push_reserved.ensures.len,
        length-append c.loop-commands.yielded (commands ∷ []),
      );
      calls = calls;
      fronts = rw c.push_reserved.ensures.items
          (front_next _ _ _ _ _ commands _ did.begins calls (search rules) was);
    }

pub returns-in_err-fronts-clause-stops : goal.returns-in_err-fronts-clause-stops
returns-in_err-fronts-clause-stops g c =
    let asked = calls_from 0 c.args.programs in
    let none : BeginsCalls (map call_of c.args.system.now.history) 0 c.args.programs =
    (asked, ap (λ (es : List Entry). map call_of es ++ asked) c.requires.empty) in
    rw (err_from_is_err_and c.from_residual.result c.from_residual.ensures.1).1 none

pub returns-in_err-perform_all-clause-stops : goal.returns-in_err-perform_all-clause-stops
returns-in_err-perform_all-clause-stops g c =
    let before = c.loop-commands.invariant in
    let did = c.in_err-perform_all.ensures.stops in
    let number : c.unwrap.result ≡ 0 + length c.loop-commands.yielded = search rules in
    let left = left_of c.loop-commands.yielded did.done did.left did.next before.all c.in-Some.ensures.steps.0 did.all
    number before.calls did.came.calls in
    let begins : BeginsCalls (map call_of c.perform_all.new.system.history) 0 c.args.programs =
    ((c.unwrap.result, did.next) ∷ left.0, left.1) in
    let back = c.from_residual-in_err-perform_all in
    rw (err_from_is_err_and back.result back.ensures.1).1 begins

pub returns-in_err-perform_all-clause-refused : goal.returns-in_err-perform_all-clause-refused
returns-in_err-perform_all-clause-refused g c =
    let before = c.loop-commands.invariant in
    let did = c.in_err-perform_all.ensures.stops in
    let number : c.unwrap.result ≡ 0 + length c.loop-commands.yielded = search rules in
    let left = left_of c.loop-commands.yielded did.done did.left did.next before.all c.in-Some.ensures.steps.0 did.all
    number before.calls did.came.calls in
    let fewer = room_left c.perform_all.new.system.history c.args.programs (c.unwrap.result, did.next) left.0 left.1 in
    let room : c.perform_all.new.system.limit ≡ c.args.system.now.limit = did.came.limit ∙ before.limit in
    let other : c.in_err-perform_all.field-0.0 ≢ apply.HistoryFull = λ is.
    omega (arith, fewer, room, c.requires.room, c.in_err-perform_all.ensures.full (ap Err is)) in
    let fault = memory_left c.in_err-perform_all.field-0.0 other in
    search rules
