-- Replies without bytes and serials, and the room for them.
use Rattle.smx_tables.proofs.Common.{◌≡◌, ℕ, Bool, true, false, not, List, [], ◌∷◌, Result, Err, refl, rules, arith}
use Rattle.smx_tables.proofs.Common.{DriverSpec, Fault, Reply, outcome, Configuration, Outcome}
use Rattle.std.proofs.Common.{Ok}
use Rattle.std.specs.Prelude.{◌≢◌, IsTrue}
use Rattle.std.proofs.lemmas.Bool.{not-true}
use Rattle.smx_types.specs.declared.command.Command.{Command}
use Rattle.smx_types.specs.declared.command.Command.TheVariants as command
use Rattle.smx_model.specs.Commands.{after_outcome, step}
use Rattle.smx_model.specs.LawfulHistories.{dropped_by, may_drop}
use Rattle.smx_model.specs.Outcomes.{◌>>=◌}
use Rattle.smx_tables.specs.SecondReplies.{HasRoomFor, HasRoomForReply, bytes_of}
use Rattle.smx_tables.specs.declared.second_reply.ReplyRoom.{ReplyRoom}

-- the command neither delivers a message nor may drop one
abbrev pub carries_nothing : Command → Bool
carries_nothing (command.Read fd) = false
carries_nothing (command.Transmit name minor) = false
carries_nothing k = not (may_drop k)

-- the reply to the outcome has no bytes
record HasNoBytes (drivers : List DriverSpec) (c : Configuration) (o : Outcome) : Type 0 where
  pub none : bytes_of (after_outcome drivers c o).1 ≡ []

-- an accepted outcome has no bytes if its reply has none
nothing : (drivers : List DriverSpec) (c : Configuration) (x : Configuration × Reply) → bytes_of x.1 ≡ []
    → HasNoBytes drivers c (Ok x)
nothing drivers c x h = record { none = h }

-- an outcome has no bytes if each outcome after its first step has none
behind : {A : Type 0} (drivers : List DriverSpec) (c : Configuration) (a : Result A Fault) (f : A → Outcome)
    → ((v : A) → HasNoBytes drivers c (f v)) → HasNoBytes drivers c (a >>= f)
behind drivers c (Ok v) f h = h v
behind drivers c (Err g) f h = record { none = refl }

-- the outcome of a command that carries nothing has a reply without bytes
no_bytes : (drivers : List DriverSpec) (c : Configuration) (process : ℕ) (k : Command) → carries_nothing k ≡ true
    → HasNoBytes drivers c (outcome drivers c process k)
no_bytes drivers c process (command.Close fd) h = absurd cc
no_bytes drivers c process command.CloseAll h = absurd cc
no_bytes drivers c process (command.Unlink fd w) h = absurd cc
no_bytes drivers c process (command.Punlink fd w) h = absurd cc
no_bytes drivers c process (command.Read fd) h = absurd cc
no_bytes drivers c process (command.Flush fd w) h = absurd cc
no_bytes drivers c process (command.Transmit name minor) h = absurd cc
no_bytes drivers c process k h = search (behind, nothing, rules) depth 20

-- a command that carries nothing may drop no message
drops_none : (k : Command) → carries_nothing k ≡ true → may_drop k ≡ false
drops_none (command.Read fd) h = refl
drops_none (command.Transmit name minor) h = refl
drops_none k h = not-true _ h

-- a list of numbers that can't be non-empty is empty
not_some : (ns : List ℕ) → ((ns ≡ [] → ⊥) → ⊥) → ns ≡ []
not_some [] h = refl
not_some (n ∷ ns) h = absurd (h (λ e. cc))

-- the reply of a command that carries nothing needs no room
pub nothing_fits : (drivers : List DriverSpec) (c : Configuration) (process : ℕ) (k : Command) (room : ReplyRoom)
    → carries_nothing k ≡ true → (dropped_by (step drivers c process k).1 ≢ [] → IsTrue (may_drop k))
    → HasRoomFor 0 0 room
    → HasRoomForReply (after_outcome drivers c (outcome drivers c process k)).1 room
nothing_fits drivers c process k room plain law h = grind (arith, no_bytes, not_some, drops_none)
