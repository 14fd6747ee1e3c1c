-- The names that the lemmas of this crate use most.
pub use Rattle.std.proofs.Common.{◌+◌, ap, arith, ◌-◌, ◌<◌, map, ◌∙◌, suc, sym, append_assoc, refl, get_or, inr, inl}
pub use Rattle.std.proofs.Common.{subst, take, ◌≢◌, rules}
pub use Rattle.std.proofs.Math.ListN.{set}
pub use Rattle.std.proofs.lemmas.Bool.Decides.{nat_tests}
pub use Rattle.std.proofs.lemmas.List.{append-nil, length-append, map-append, nil_from_length}
pub use Rattle.std.proofs.lemmas.Result.{err_from_is_err_and}
pub use Rattle.std.specs.List.{AllByRecursion}
pub use Rattle.std.specs.Prelude.{◌⊎◌, IfErr}
pub use Rattle.std.specs.Str.{bytes_eq}
pub use Rattle.smx_types.specs.ProgramLists.{AreWithinLimits, ProgramLists}
pub use Rattle.smx_types.specs.Versions.{most_drivers, is_of_hangup}
pub use Rattle.smx_types.specs.declared.command.Command.{Command}
pub use Rattle.smx_types.specs.declared.command.Entry.{Entry}
pub use Rattle.smx_types.specs.declared.driver.DriverSpec.{DriverSpec}
pub use Rattle.smx_types.specs.declared.limits.TheConstants.{MAX_COMMANDS}
pub use Rattle.smx_types.specs.declared.transcript.Transcript.{Transcript}
pub use Rattle.smx_types.specs.declared.version.Version.{Version}
pub use Rattle.smx_types.specs.declared.version.Version.TheVariants.{V1, V2}
pub use Rattle.smx_types.specs.declared.view.ConfigView.{ConfigView}
pub use Rattle.smx_types.specs.declared.view.HungLine.{HungLine}
pub use Rattle.smx_words.specs.Spellable.{FitsEntry, FitsDriver}
pub use Rattle.smx_words.specs.Spelling.{entry_words, driver_words, command_words, next_words}
pub use Rattle.smx_words.specs.Words.{AreWords, text_of, LINE_FEED, line_of, SPACE, IsFree}
pub use Rattle.smx_text.specs.Drafts.{lines, grammar_of}
pub use Rattle.smx_text.specs.Grammar.{IsOneLine, beginning, IsNoLine, Grammar, header, IsBegun, line_text, IsFault}
pub use Rattle.smx_text.specs.Grammar.{Reads, ReadsAny}
pub use Rattle.smx_text.specs.ProgramLines.{Line}
pub use Rattle.smx_text.specs.ProgramsText.{program_lines, programs_grammar}
pub use Rattle.smx_text.specs.Reading.{Refuses}
pub use Rattle.smx_text.specs.TranscriptLines.{TranscriptLine}
pub use Rattle.smx_text.specs.TranscriptText.{transcript_grammar, view_body}
pub use Rattle.smx_text.specs.declared.text_fault.Cause.{Cause}
pub use Rattle.smx_text.specs.declared.text_fault.TextFault.{TextFault}
pub use Rattle.smx_text.specs.declared.transcript.Stage.{Stage}
pub use Rattle.smx_text.specs.declared.transcript.TranscriptDraft.{TranscriptDraft}
