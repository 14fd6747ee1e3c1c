-- The first entries of a transcript.
use Rattle.std.specs.Prelude.{ℕ, take}
use Rattle.smx_types.specs.declared.transcript.Transcript.{Transcript}

-- the transcript with its first entries alone; its view no longer matters to a replay
abbrev pub first_entries : ℕ → Transcript → Transcript
first_entries count t = record t { entries = take count t.entries }
