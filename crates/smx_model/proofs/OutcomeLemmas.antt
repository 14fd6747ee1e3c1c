-- Properties of every accepted outcome.
use Rattle.smx_model.proofs.Common.{◌≡◌, Bool, true, false, Option, Some, None, Result, Ok, Err, refl, if◌then◌else◌}
use Rattle.smx_model.proofs.Common.{IfOk, Fault, Reply, Configuration, refuse, Outcome}
use Rattle.std.specs.Option.{ok_or}
use Rattle.smx_model.specs.Outcomes.{◌>>=◌}

-- P holds of the configuration and the reply, if the outcome is accepted
abbrev of_accepted : (Configuration → Reply → Type 0) → Outcome → Type 0
of_accepted P (Ok x) = P x.0 x.1
of_accepted P (Err f) = Unit {0}

-- the same as `of_accepted`, as a record, so that a search finds the parts of the outcome
pub record IfAccepted (P : Configuration → Reply → Type 0) (o : Outcome) : Type 0 where
  pub holds : of_accepted P o

-- P holds of an accepted outcome, if it holds of its configuration and its reply
pub at_ok : (P : Configuration → Reply → Type 0) (d : Configuration) (r : Reply) → P d r → IfAccepted P (Ok (d, r))
at_ok P d r h = record { holds = h }

-- P holds of an outcome after a look-up, if it holds with each value that the look-up may return
pub after_ok : {A : Type 0} (P : Configuration → Reply → Type 0) (r : Result A Fault) (f : A → Outcome)
    → ((x : A) → r ≡ Ok x → IfAccepted P (f x)) → IfAccepted P (r >>= f)
after_ok P (Ok x) f h = h x refl
after_ok P (Err e) f h = record { holds = tt }

-- P holds of an outcome after a refusal, if it holds when the refusal's test fails
pub after_test : (P : Configuration → Reply → Type 0) (fault : Fault) (b : Bool) (f : Unit {0} → Outcome)
    → (b ≡ false → IfAccepted P (f tt)) → IfAccepted P (refuse fault b >>= f)
after_test P fault true f h = record { holds = tt }
after_test P fault false f h = h refl

-- P holds of an outcome after an optional value, if it holds with any such value
pub after_some : {A : Type 0} (P : Configuration → Reply → Type 0) (fault : Fault) (o : Option A) (f : A → Outcome)
    → ((x : A) → o ≡ Some x → IfAccepted P (f x)) → IfAccepted P (ok_or o fault >>= f)
after_some P fault (Some x) f h = h x refl
after_some P fault None f h = record { holds = tt }

-- P holds of a choice of two outcomes, if it holds of each one when it is chosen
pub after_choice : (P : Configuration → Reply → Type 0) (b : Bool) (o p : Outcome) → (b ≡ true → IfAccepted P o)
    → (b ≡ false → IfAccepted P p) → IfAccepted P (if b then o else p)
after_choice P true o p h k = h refl
after_choice P false o p h k = k refl

-- if `IfAccepted` holds with P of the configuration, `IfOk` holds with everything that follows from P
pub if_ok : (P Q : Configuration → Type 0) (o : Outcome) → ((d : Configuration) → P d → Q d)
    → IfAccepted (λ d r. P d) o → IfOk o (λ x. Q x.0)
if_ok P Q (Ok x) f h = f x.0 h.holds
if_ok P Q (Err e) f h = tt

-- the same of the reply
pub if_accepted : (P : Configuration → Reply → Type 0) (o : Outcome) → IfAccepted P o → IfOk o (λ x. P x.0 x.1)
if_accepted P (Ok x) h = h.holds
if_accepted P (Err e) h = tt
