-- The names that the lemmas of this crate use most.
pub use Rattle.std.proofs.Common.{[], ◌++◌, refl, append_assoc, inl, ap, ◌≡◌, Bool, rules, length, ℕ, subst, inr}
pub use Rattle.std.proofs.Common.{arith, true, List, ◌∙◌, ◌^◌, ◌∷◌, sym, false, ◌<◌, ◌≢◌, ◌+◌, take, ◌≤◌, drop, map}
pub use Rattle.std.proofs.KnownBytes.{Consumes-trans}
pub use Rattle.std.proofs.lemmas.List.{length-append, length-take-le}
pub use Rattle.std.specs.Io.KnownBytes.{Consumes}
pub use Rattle.std.specs.List.{AllByRecursion}
pub use Rattle.std.specs.Prelude.{codes, ⊤}
pub use Rattle.smx_types.specs.ProgramLists.{ProgramLists}
pub use Rattle.smx_types.specs.declared.command.Entry.{Entry}
pub use Rattle.smx_types.specs.declared.driver.DriverSpec.{DriverSpec}
pub use Rattle.smx_types.specs.declared.version.Version.{Version}
pub use Rattle.smx_types.specs.declared.version.Version.TheVariants.{V2}
pub use Rattle.smx_explain.specs.ColumnWords.{IsExplanationOf}
pub use Rattle.smx_run.proofs.ReadingLemmas.{HasOneReading, one_value}
pub use Rattle.smx_run.specs.declared.input.TheConstants.{MAX_INPUT}
pub use Rattle.smx_run.specs.declared.main_fault.MainFault.{MainFault}
pub use Rattle.smx_run.specs.declared.main_fault.MainFault.TheVariants.{Text, ReadFailed, WriteFailed, Refused}
pub use Rattle.smx_run.specs.declared.main_fault.MainFault.TheVariants.{TooLong}
pub use Rattle.smx_model.specs.Commands.{step}
pub use Rattle.smx_model.specs.Configuration.{Configuration}
pub use Rattle.smx_model.specs.Histories.{after, call_of}
pub use Rattle.smx_model.specs.Views.{view}
pub use Rattle.smx_model.specs.Worked.Common.{eth}
pub use Rattle.smx_session.specs.Sessions.{IsStartOf, State}
pub use Rattle.smx_text.proofs.LineLemmas.{not_one}
pub use Rattle.smx_text.specs.Grammar.{Spells, IsOneLine, ReadsAny}
pub use Rattle.smx_text.specs.GrowingTranscripts.{BeginsTranscript}
pub use Rattle.smx_text.specs.ProgramsText.{programs_grammar}
pub use Rattle.smx_words.specs.Spelling.{call_words}
pub use Rattle.smx_words.specs.Words.{line_of, LINE_FEED, lines_text}
pub use Rattle.smx_live.specs.Inboxes.{HasLine, IsTooLong, FailsToRead, IsShort}
pub use Rattle.smx_live.specs.LiveText.{HasComeSoFar, IsOver, IsLive, IsOutcome}
pub use Rattle.smx_live.specs.Tables.{IsTable, table_text, IsEndlessTable, IsUnfinished, AreOfTable, begins_driver}
pub use Rattle.smx_live.specs.Turns.{Turn, asked_text, Answer, Entered, Shown, IsEntryOf, entries_of, AreAnswered}
pub use Rattle.smx_live.specs.Turns.{IsAnswer, entries_in, NotDone, IsBelow}
pub use Rattle.smx_live.specs.WorkedLives.{worked_table}
pub use Rattle.smx_live.specs.declared.talk.Progress.{Progress}
pub use Rattle.smx_live.specs.declared.talk.TurnFault.TheVariants.{NoCommand, NoMemory}
