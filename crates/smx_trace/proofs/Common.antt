-- The names that the lemmas of this crate use most.
pub use Rattle.std.proofs.Common.{Bool, append_assoc, inl, false, sym, true, Some, Option, None, arith, ap, rules}
pub use Rattle.std.proofs.Common.{refl, ◌∙◌, inr, ◌<◌, get_or, ◌+◌, subst, ◌≢◌, not, Result, eqb, ◌||◌}
pub use Rattle.std.proofs.lemmas.Bool.{cases_Bool, false_from_ne_true, or_from, or_parts}
pub use Rattle.std.proofs.lemmas.Bool.Decides.{nat_tests}
pub use Rattle.std.proofs.lemmas.Grind.{flat_map-append}
pub use Rattle.std.proofs.lemmas.List.{take_more, append-nil}
pub use Rattle.std.specs.Bool.{Decides}
pub use Rattle.std.specs.List.{flat_map, list_any, AllByRecursion}
pub use Rattle.std.specs.Prelude.{codes, if◌then◌else◌, nat_lt}
pub use Rattle.smx_types.specs.declared.command.Command.{Command}
pub use Rattle.smx_types.specs.declared.command.Entry.{Entry}
pub use Rattle.smx_types.specs.declared.driver.DriverSpec.{DriverSpec}
pub use Rattle.smx_types.specs.declared.stream.Place.{Place}
pub use Rattle.smx_types.specs.declared.transcript.Transcript.{Transcript}
pub use Rattle.smx_types.specs.declared.view.ConfigView.{ConfigView}
pub use Rattle.smx_types.specs.declared.view.MessageLine.{MessageLine}
pub use Rattle.smx_model.specs.Changes.{missing_from, group_changes, Change, same_serial, arrival_change}
pub use Rattle.smx_model.specs.Commands.{step}
pub use Rattle.smx_model.specs.Configuration.{QueuedMessage, empty, is_at, Configuration}
pub use Rattle.smx_model.specs.DriverList.{IsDriverList}
pub use Rattle.smx_model.specs.Histories.{after_from, after, IsLegal, call_of}
pub use Rattle.smx_model.specs.Views.{view, view_of_message, view_of_full, view_of_route, view_of_bind, view_of_hung}
pub use Rattle.smx_model.specs.Views.{view_of_fd, view_of_link}
pub use Rattle.smx_model.specs.Waits.{wait_at, waits, Wait}
pub use Rattle.smx_text.specs.GrowingTranscripts.{transcript_with}
pub use Rattle.smx_text.specs.TranscriptLines.{TranscriptLine}
pub use Rattle.smx_words.specs.Words.{LINE_FEED, line_of}
pub use Rattle.smx_trace.specs.Answers.{HasCome}
pub use Rattle.smx_trace.specs.Missing.{ComesTo}
pub use Rattle.smx_trace.specs.Queues.{IsLeft, queues_left}
pub use Rattle.smx_trace.specs.Ranks.{is_before}
pub use Rattle.smx_trace.specs.Replays.{IsReplayOf}
pub use Rattle.smx_trace.specs.Serials.{same_line, FindsBySerial}
pub use Rattle.smx_trace.specs.TraceWords.{changes_text, marked}
pub use Rattle.smx_trace.specs.Traces.{queue_lines, TraceLine}
