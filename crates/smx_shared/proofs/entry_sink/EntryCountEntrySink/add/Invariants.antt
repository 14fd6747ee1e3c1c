use Rattle.std.specs.Prelude.{[], ◌∷◌, ◌++◌}
use Rattle.smx_shared.proofs.entry_sink.EntryCountEntrySink.add.Given as goal

abbrev pub ghost-new : goal.ghost-new
ghost-new a = record { process = a._from.now.0; command = a._from.now.1.now; reply = a._from.now.2.now }

abbrev pub ghost-new-2 : goal.ghost-new-2
ghost-new-2 a = a._from.now.0.now.value ++ a._from.now.1.now.value ∷ []
