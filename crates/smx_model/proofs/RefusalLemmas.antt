-- No accepted outcome has a fault as its reply.
use Rattle.smx_model.proofs.Common.{◌≡◌, ℕ, Bool, true, false, List, refl, rules, Command, DriverSpec, Fault, Reply}
use Rattle.smx_model.proofs.Common.{outcome, step, done_outcome, Configuration, Outcome, arith}
use Rattle.smx_types.specs.declared.reply.Reply.TheVariants as reply
use Rattle.smx_model.proofs.AcceptedLemmas.{of_rows}
use Rattle.smx_model.proofs.OutcomeLemmas.{IfAccepted}

-- the reply is a fault
abbrev is_fault : Reply → Bool
is_fault (reply.Fd fd minor) = false
is_fault (reply.Id id) = false
is_fault (reply.Took serial) = false
is_fault (reply.Got serial addr bytes) = false
is_fault (reply.Done gone) = false
is_fault reply.Eof = false
is_fault (reply.Fault fault) = true

-- if the outcome is accepted, its reply is not a fault
abbrev IsAnswered : Outcome → Type 0
IsAnswered o = IfAccepted (λ d r. is_fault r ≡ false) o

-- a command that is done does not reply with a fault
done_answers : (drivers : List DriverSpec) (c d : Configuration) → IsAnswered (done_outcome drivers c d)
done_answers drivers c d = record { holds = refl }

-- an accepted command does not reply with a fault
answers_accepted : (drivers : List DriverSpec) (c : Configuration) (process : ℕ) (k : Command)
    → IsAnswered (outcome drivers c process k)
answers_accepted drivers c process k = search (of_rows, done_answers, rules) depth 24

-- a reply that is a fault is that of a refusal

-- a command whose reply is a fault changes nothing
pub refused_same : (drivers : List DriverSpec) (c : Configuration) (process : ℕ) (k : Command) (f : Fault)
    → (step drivers c process k).1 ≡ reply.Fault f → (step drivers c process k).0 ≡ c
refused_same drivers c process k f e = grind (arith, answers_accepted drivers c process k)
