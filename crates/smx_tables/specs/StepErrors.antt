-- The faults of the tables of links and of streams, as errors of a command.
use Rattle.smx_types.specs.declared.reply.Fault.TheVariants.{AlreadyBelow, Cycle, TooManyLinks}
use Rattle.smx_types.specs.declared.reply.Fault.TheVariants.{BadDescriptor, NoDriver, NoMinor, TooManyDescriptors}
use Rattle.smx_links.specs.declared.table.LinkFault.{LinkFault}
use Rattle.smx_links.specs.declared.table.LinkFault.TheVariants as link_fault
use Rattle.smx_streams.specs.declared.stream_fault.StreamFault.{StreamFault}
use Rattle.smx_streams.specs.declared.stream_fault.StreamFault.TheVariants as stream_fault
use Rattle.smx_tables.specs.declared.step_error.StepError.{StepError}
use Rattle.smx_tables.specs.declared.step_error.StepError.TheVariants.{Refused, NoMemory}

-- the refusal of the command table for a fault of the table of links, or out of memory
abbrev pub of_link_fault : LinkFault → StepError
of_link_fault link_fault.Already = Refused AlreadyBelow
of_link_fault link_fault.Cycle = Refused Cycle
of_link_fault link_fault.Full = Refused TooManyLinks
of_link_fault link_fault.NoMemory = NoMemory

-- the refusal of the command table for a fault of the table of streams, or out of memory
abbrev pub of_stream_fault : StreamFault → StepError
of_stream_fault stream_fault.NoDriver = Refused NoDriver
of_stream_fault stream_fault.NoMinor = Refused NoMinor
of_stream_fault stream_fault.BadDescriptor = Refused BadDescriptor
of_stream_fault stream_fault.TooManyDescriptors = Refused TooManyDescriptors
of_stream_fault stream_fault.NoMemory = NoMemory
