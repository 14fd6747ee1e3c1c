-- The names that the lemmas of this crate use most.
pub use Rattle.std.proofs.Common.{List, inl, refl, ◌∙◌, Bool, arith, ◌≡◌, length, ℕ, Result, Ok, inr, true, map}
pub use Rattle.std.proofs.Common.{subst, ◌≢◌, ap, sym, Err, ◌≤◌, false, Option, None, Vec, Some, rules, ◌+◌, take}
pub use Rattle.std.proofs.Common.{◌-◌}
pub use Rattle.std.specs.Global.{Global}
pub use Rattle.std.specs.Io.KnownBytes.{Appends, Consumes}
pub use Rattle.std.specs.Prelude.{IfErr, IsErrAnd}
pub use Rattle.smx_types.specs.ProgramLists.{ProgramLists}
pub use Rattle.smx_types.specs.declared.command.Entry.{Entry}
pub use Rattle.smx_types.specs.declared.driver.DriverSpec.{DriverSpec}
pub use Rattle.smx_types.specs.declared.transcript.Transcript.{Transcript}
pub use Rattle.smx_types.specs.declared.version.Version.{Version}
pub use Rattle.smx_config.specs.DriverFaults.{RefusesDrivers}
pub use Rattle.smx_config.specs.Verdicts.{IsVerdict}
pub use Rattle.smx_config.specs.declared.config_fault.ConfigFault.{ConfigFault}
pub use Rattle.smx_config.specs.declared.verdict.Verdict.{Verdict}
pub use Rattle.smx_config.specs.declared.verdict.Verdict.TheVariants.{Legal}
pub use Rattle.smx_model.specs.Headline.{IsReportOf}
pub use Rattle.smx_model.specs.Histories.{call_of}
pub use Rattle.smx_run.specs.ProgramOrder.{calls_from}
pub use Rattle.smx_run.specs.RunFaults.{RefusesAlone}
pub use Rattle.smx_run.specs.declared.run_fault.RunFault.{RunFault}
pub use Rattle.smx_text.specs.Grammar.{Spells, ReadsAny}
pub use Rattle.smx_text.specs.TranscriptText.{transcript_text, transcript_grammar}
pub use Rattle.smx_text.specs.declared.text_fault.TextFault.{TextFault}
pub use Rattle.smx_filters.specs.CheckText.{checking}
pub use Rattle.smx_filters.specs.Filters.{Filter, Answers, GivesFor, IsFaultOf, FiltersText}
pub use Rattle.smx_run.specs.Input.{IsInput}
pub use Rattle.smx_filters.specs.RunText.{running, IsWrittenFor}
pub use Rattle.smx_run.specs.declared.input.TheConstants.{MAX_INPUT}
pub use Rattle.smx_run.specs.declared.main_fault.MainFault.{MainFault}
pub use Rattle.smx_run.specs.declared.main_fault.MainFault.TheVariants.{Text, WriteFailed, ReadFailed, Refused}
pub use Rattle.smx_run.specs.declared.main_fault.MainFault.TheVariants.{TooLong}
