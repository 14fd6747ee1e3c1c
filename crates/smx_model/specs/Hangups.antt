-- Streams whose devices have hung up.
use Rattle.std.specs.Prelude.{Bool, if◌then◌else◌, List}
use Rattle.std.specs.List.{list_any}
use Rattle.smx_types.specs.declared.stream.StreamId.{StreamId}
use Rattle.smx_model.specs.Configuration.{same_stream, stream_before}
use Rattle.smx_model.specs.Ordered.{with_inserted}

-- the stream's device has hung up (STREAMS guide, M_HANGUP)
abbrev pub is_hung : List StreamId → StreamId → Bool
is_hung hungs s = list_any (λ t. same_stream t s) hungs

-- the list with this stream hung up; a second hangup changes nothing (specific to this project)
abbrev pub with_hung : StreamId → List StreamId → List StreamId
with_hung s hungs = if is_hung hungs s then hungs else with_inserted stream_before hungs s
