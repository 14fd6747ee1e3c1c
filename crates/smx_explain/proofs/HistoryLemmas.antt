-- A history and the one that its commands give, up to the first illegal entry.
use Rattle.std.proofs.Common.{◌≡◌, ℕ, zero, suc, List, [], ◌∷◌, ◌++◌, map, take, Some, sym, ap, subst, ◌∙◌}
use Rattle.std.specs.Prelude.{slice_get}
use Rattle.smx_types.specs.declared.command.Command.{Command}
use Rattle.smx_types.specs.declared.command.Entry.{Entry}
use Rattle.smx_types.specs.declared.driver.DriverSpec.{DriverSpec}
use Rattle.smx_types.specs.declared.reply.Reply.{Reply}
use Rattle.smx_model.specs.Commands.{step}
use Rattle.smx_model.specs.Configuration.{Configuration}
use Rattle.smx_model.specs.Histories.{after_from, call_of, IsLegalFrom}
use Rattle.smx_trace.specs.Answers.{answered}

-- entries with the same parts are the same
same_entry : (d e : Entry) → call_of d ≡ call_of e → d.reply ≡ e.reply → d ≡ e
same_entry d e call reply = ap (λ (p : ℕ). record d { process = p }) (ap (λ (call : ℕ × Command). call.0) call)
    ∙ ap (λ (c : Command). record d { process = e.process; command = c }) (ap (λ (call : ℕ × Command). call.1) call)
    ∙ ap (λ (r : Reply). record e { reply = r }) reply

-- at this index one history has this entry and the other its answer, with the same entries before it
pub record StandsIn (drivers : List DriverSpec) (c : Configuration) (es rs : List Entry) (b : ℕ)
    (e : Entry) : Type 0 where
  pub more : List Entry
  pub more_too : List Entry
  pub it : es ≡ take b es ++ e ∷ more
  pub its_replay : rs ≡ take b es ++ answered drivers (after_from drivers c (take b es)) e ∷ more_too

module _ (drivers : List DriverSpec) where
  -- an entry with the call of another, and the reply of the model, is that other with the model's answer
  answers : (c : Configuration) (x y : Entry) → (step drivers c y.process y.command).1 ≡ y.reply → call_of y ≡ call_of x
      → y ≡ answered drivers c x
  answers c x y legal call = same_entry y (answered drivers c x) call
      (sym legal ∙ ap (λ (call : ℕ × Command). (step drivers c call.0 call.1).1) call)

  -- an entry after a legal history is in the history at this index, and its answer is at the same index of the replay
  pub stands_in : (c : Configuration) (es rs : List Entry) (b : ℕ) (e : Entry) → IsLegalFrom drivers c rs
      → map call_of rs ≡ map call_of es
      → IsLegalFrom drivers c (take b es) → slice_get es b ≡ Some e → StandsIn drivers c es rs b e
  stands_in c [] rs b e legal calls before here = absurd (cc here)
  stands_in c (x ∷ es) [] b e legal calls before here = absurd (cc calls)
  stands_in c (x ∷ es) (y ∷ rs) zero e legal calls before here =
      let is : x ≡ e = cc here in
      let call : call_of y ≡ call_of x = cc calls in
      record {
        more = es;
        more_too = rs;
        it = ap (λ (z : Entry). z ∷ es) is;
        its_replay = ap (λ (z : Entry). z ∷ rs) (answers c x y legal.0 call ∙ ap (answered drivers c) is);
      }
  stands_in c (x ∷ es) (y ∷ rs) (suc b) e legal calls before here =
      let call : call_of y ≡ call_of x = cc calls in
      let rest : map call_of rs ≡ map call_of es = cc calls in
      let is : y ≡ x = same_entry y x call (sym legal.0
      ∙ ap (λ (call : ℕ × Command). (step drivers c call.0 call.1).1) call ∙ before.0) in
      let on : IsLegalFrom drivers (step drivers c x.process x.command).0 rs =
      subst (λ (call : ℕ × Command). IsLegalFrom drivers (step drivers c call.0 call.1).0 rs) call legal.1 in
      let t = stands_in (step drivers c x.process x.command).0 es rs b e on rest before.1 here in
      record {
        more = t.more;
        more_too = t.more_too;
        it = ap (λ (zs : List Entry). x ∷ zs) t.it;
        its_replay = ap (λ (z : Entry). z ∷ rs) is ∙ ap (λ (zs : List Entry). x ∷ zs) t.its_replay;
      }
