-- The outcome of a command: a new configuration with a reply, or the first refusal that applies.
use Rattle.std.specs.Prelude.{Bool, true, false, Result, Ok, Err}
use Rattle.smx_types.specs.declared.reply.Fault.{Fault}
use Rattle.smx_types.specs.declared.reply.Reply.{Reply}
use Rattle.smx_model.specs.Configuration.{Configuration}

-- a new configuration and a reply, or a fault
abbrev pub Outcome : Type 0
Outcome = Result (Configuration × Reply) Fault

-- sequencing, up to the first fault
infixl 10 ◌>>=◌
-- applies a function to a result, unless it is a fault
abbrev pub ◌>>=◌ : {A B : Type 0} → Result A Fault → (A → Result B Fault) → Result B Fault
(Ok x) >>= f = f x
(Err e) >>= f = Err e

-- refuses with this fault if the test holds
abbrev pub refuse : Fault → Bool → Result (Unit {0}) Fault
refuse f true = Err f
refuse f false = Ok tt

-- the value, or a refusal with this fault if the test holds for it
abbrev pub unless : {A : Type 0} → Fault → (A → Bool) → A → Result A Fault
unless f test x = refuse f (test x) >>= (λ passed. Ok x)
