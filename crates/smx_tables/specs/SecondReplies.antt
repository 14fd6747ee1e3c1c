-- Room for a second copy of a reply.
use Rattle.std.specs.Prelude.{◌≡◌, ℕ, ◌≤◌, List, [], length, vec_capacity, Result, Ok, Err, IsOk}
use Rattle.smx_types.specs.declared.reply.Reply.{Reply}
use Rattle.smx_types.specs.declared.reply.Reply.TheVariants as reply
use Rattle.smx_model.specs.Commands.{after_outcome}
use Rattle.smx_model.specs.LawfulHistories.{dropped_by}
use Rattle.smx_model.specs.Outcomes.{Outcome}
use Rattle.smx_tables.specs.Machine.{Machine}
use Rattle.smx_tables.specs.declared.second_reply.ReplyRoom.{ReplyRoom}
use Rattle.smx_tables.specs.declared.step_error.StepError.{StepError}
use Rattle.smx_tables.specs.declared.step_error.StepError.TheVariants as step_error

-- the bytes of the message that the reply delivers
abbrev pub bytes_of : Reply → List ℕ
bytes_of (reply.Fd fd minor) = []
bytes_of (reply.Id id) = []
bytes_of (reply.Took serial) = []
bytes_of (reply.Got serial addr bytes) = bytes
bytes_of (reply.Done gone) = []
bytes_of reply.Eof = []
bytes_of (reply.Fault fault) = []

-- both lists are empty, with room for these numbers of bytes and serials
pub record HasRoomFor (bytes serials : ℕ) (r : ReplyRoom) : Type 0 where
  pub no_bytes : r.bytes.items ≡ []
  pub bytes_room : bytes ≤ vec_capacity r.bytes
  pub no_serials : r.serials.items ≡ []
  pub serials_room : serials ≤ vec_capacity r.serials

-- room for the bytes and serials of the reply
abbrev pub HasRoomForReply : Reply → ReplyRoom → Type 0
HasRoomForReply r room = HasRoomFor (length (bytes_of r)) (length (dropped_by r)) room

-- room for the reply of the outcome; or the outcome is a refusal with this fault; or it is accepted, and an allocation
-- failed
abbrev pub MakesRoom : Machine → Outcome → Result ReplyRoom StepError → Type 0
MakesRoom m o (Ok room) = HasRoomForReply (after_outcome m.drivers m.configuration o).1 room
MakesRoom m o (Err (step_error.Refused f)) = o ≡ Err f
MakesRoom m o (Err step_error.NoMemory) = IsOk o
