-- The fields of a table of streams. No public clause needs this.
use Rattle.std.specs.Prelude.{◌≡◌, ℕ, ◌+◌, List, [], ◌∷◌, if◌then◌else◌}
use Rattle.smx_types.specs.declared.stream.Descriptor.{Descriptor}
use Rattle.smx_types.specs.declared.stream.StreamId.{StreamId}
use Rattle.smx_model.specs.Configuration.{same_stream}
use Rattle.smx_streams.specs.declared.streams.Streams.TheInside.{Inside}
use Rattle.smx_streams.specs.DescriptorRows.{IsListed}
use Rattle.smx_streams.specs.HungRows.{hungs_from}
use Rattle.smx_streams.specs.RecordGrids.{AreSound}
use Rattle.smx_streams.specs.StreamTables.{StreamTable, number_at}

-- the number of descriptors that name the stream
abbrev pub names_of : StreamId → List Descriptor → ℕ
names_of s [] = 0
names_of s (d ∷ ds) = (if same_stream d.stream s then 1 else 0) + names_of s ds

-- the value that contracts see for these fields
abbrev pub table_of : Inside → StreamTable
table_of t = record {
  minors = t.records.minors;
  fds = t.descriptors.fds;
  holds = t.records.holds;
  hungs = hungs_from 0 t.records.hungs;
}

-- the record of each stream counts the descriptors that name the stream; the descriptors are in order, and they and
-- the records are valid
pub record IsWhole (t : Inside) : Type 0 where
  pub named : (s : StreamId) → number_at t.records.opens s ≡ names_of s t.descriptors.fds
  pub listed : IsListed t.descriptors.fds
  pub records : AreSound t.records
