-- The stream at which a command sends or takes a message. It is looked up once.
use Rattle.std.specs.Prelude.{ℕ, List, Result, Err}
use Rattle.smx_types.specs.declared.command.Command.{Command}
use Rattle.smx_types.specs.declared.command.Command.TheVariants as command
use Rattle.smx_types.specs.declared.driver.DriverSpec.{DriverSpec}
use Rattle.smx_types.specs.declared.reply.Fault.{Fault}
use Rattle.smx_types.specs.declared.reply.Fault.TheVariants.{BadDescriptor}
use Rattle.smx_types.specs.declared.stream.StreamId.{StreamId}
use Rattle.smx_model.specs.Configuration.{Configuration}
use Rattle.smx_model.specs.Lookups.{free_stream, live_leaf, live_stream}

-- the stream, or the refusal; for a command that neither sends nor takes a message, a fault that no reply reports
abbrev pub message_stream : List DriverSpec → Configuration → ℕ → Command → Result StreamId Fault
message_stream drivers c process (command.OpenClone name) = Err BadDescriptor
message_stream drivers c process (command.OpenMinor name minor) = Err BadDescriptor
message_stream drivers c process (command.Dup fd) = Err BadDescriptor
message_stream drivers c process (command.Close fd) = Err BadDescriptor
message_stream drivers c process command.CloseAll = Err BadDescriptor
message_stream drivers c process (command.Link fd arg) = Err BadDescriptor
message_stream drivers c process (command.Plink fd arg) = Err BadDescriptor
message_stream drivers c process (command.Unlink fd w) = Err BadDescriptor
message_stream drivers c process (command.Punlink fd w) = Err BadDescriptor
message_stream drivers c process (command.Bind fd addr) = Err BadDescriptor
message_stream drivers c process (command.Unbind fd) = Err BadDescriptor
message_stream drivers c process (command.Route fd addr id) = Err BadDescriptor
message_stream drivers c process (command.Unroute fd addr) = Err BadDescriptor
message_stream drivers c process (command.Write fd addr bytes) = live_stream c process fd
message_stream drivers c process (command.Read fd) = free_stream c process fd
message_stream drivers c process (command.Flush fd w) = Err BadDescriptor
message_stream drivers c process (command.Inject name minor addr bytes) = live_leaf drivers c name minor
message_stream drivers c process (command.Transmit name minor) = live_leaf drivers c name minor
message_stream drivers c process (command.Hangup name minor) = Err BadDescriptor
