-- The names that lemmas use most: of std, the types, and the definitions of the model.
pub use Rattle.std.proofs.Common.{◌≡◌, ℕ, zero, suc, ◌<◌, Bool, true, false, ◌&&◌, ◌||◌, eqb, List, [], ◌∷◌, ◌++◌}
pub use Rattle.std.proofs.Common.{length, get_or, refl, ◌∙◌, sym, subst, arith, inl, inr, length-append, find, Some}
pub use Rattle.std.proofs.Common.{Option, None, Result, Ok, Err, ap, ◌+◌, ◌≤◌, not, leb, filter, rules, ◌*◌, cond}
pub use Rattle.std.proofs.Common.{if◌then◌else◌, map, ◌==◌, ◌≢◌, take, replicate, ◌-◌}
pub use Rattle.std.proofs.lemmas.Bool.{false_from_ne_true, cases_Bool, false≢true, both_ways, or_cases, and_parts}
pub use Rattle.std.proofs.lemmas.Bool.{and_from, or_left, or_right, eqb-true, eq-eqb, or_parts, or_from, not-false}
pub use Rattle.std.proofs.lemmas.Bool.{ltb-true, lt-ltb, cases_lt, cases_eq, ne_eqb}
pub use Rattle.std.proofs.lemmas.Bool.Decides.{nat_tests}
pub use Rattle.std.proofs.lemmas.List.{get_or_past, take_more}
pub use Rattle.std.proofs.lemmas.List.Elements.{recursion_from_All, All-from_recursion, All-nil, All-filter}
pub use Rattle.std.proofs.lemmas.Option.{same_Some}
pub use Rattle.std.specs.List.{list_any, AllByRecursion, AllPairs, list_all, range_with_len, All}
pub use Rattle.std.specs.List.Sorted.{IsPermutation}
pub use Rattle.std.specs.Map.{lookup, values_of, keys_of}
pub use Rattle.std.specs.Option.{option_map, is_some}
pub use Rattle.std.specs.Prelude.{IfOk, slice_get, nat_lt}
pub use mathlib.Core.Logic.{◌⊎◌}
pub use Rattle.smx_types.specs.ProgramLists.{ProgramLists}
pub use Rattle.smx_types.specs.Versions.{is_hangup}
pub use Rattle.smx_types.specs.declared.command.Command.{Command}
pub use Rattle.smx_types.specs.declared.command.Entry.{Entry}
pub use Rattle.smx_types.specs.declared.command.Which.{Which}
pub use Rattle.smx_types.specs.declared.driver.DriverSpec.{DriverSpec}
pub use Rattle.smx_types.specs.declared.limits.TheConstants.{MAX_DESCRIPTORS, MAX_LINKS, NUMBER_END, MAX_DRIVERS}
pub use Rattle.smx_types.specs.declared.limits.TheConstants.{MAX_PROCESSES}
pub use Rattle.smx_types.specs.declared.link.Binding.{Binding}
pub use Rattle.smx_types.specs.declared.link.Link.{Link}
pub use Rattle.smx_types.specs.declared.link.LinkKind.{LinkKind}
pub use Rattle.smx_types.specs.declared.link.Route.{Route}
pub use Rattle.smx_types.specs.declared.message.Message.{Message}
pub use Rattle.smx_types.specs.declared.reply.Fault.{Fault}
pub use Rattle.smx_types.specs.declared.reply.Fault.TheVariants.{TooManyDescriptors, NoDriver, NoMinor, NotMux}
pub use Rattle.smx_types.specs.declared.reply.Reply.{Reply}
pub use Rattle.smx_types.specs.declared.stream.Descriptor.{Descriptor}
pub use Rattle.smx_types.specs.declared.stream.Place.{Place}
pub use Rattle.smx_types.specs.declared.stream.Side.{Side}
pub use Rattle.smx_types.specs.declared.stream.StreamId.{StreamId}
pub use Rattle.smx_types.specs.declared.transcript.Transcript.{Transcript}
pub use Rattle.smx_types.specs.declared.view.ConfigView.{ConfigView}
pub use Rattle.smx_model.specs.Commands.{outcome, done_outcome, with_fd, step, after_outcome, link_outcome}
pub use Rattle.smx_model.specs.Commands.{receive_outcome, unlink_outcome, send_outcome}
pub use Rattle.smx_model.specs.Configuration.{Configuration, is_fd, QueuedMessage, place_before, same_place, empty}
pub use Rattle.smx_model.specs.Configuration.{fd_before, pair_before, same_stream, stream_before, is_at, queued_before}
pub use Rattle.smx_model.specs.Configuration.{route_before, read_side, write_side, same_side, bind_before}
pub use Rattle.smx_model.specs.DriverList.{is_mux, minors_of, IsDriverList}
pub use Rattle.smx_model.specs.FlowOrder.{IsInOrder}
pub use Rattle.smx_model.specs.FreedPlaces.{HaveFullPlacesMessages, FreesOnly}
pub use Rattle.smx_model.specs.Hangups.{is_hung, with_hung}
pub use Rattle.smx_model.specs.Headline.{IsReportOf}
pub use Rattle.smx_model.specs.Histories.{after, after_from, HoldsPrograms, IsLegal, IsLegalFrom, call_of}
pub use Rattle.smx_model.specs.KeptConfigurations.{IsKept, IsSound}
pub use Rattle.smx_model.specs.KnownStreams.{IsKnown, AreStreamsKnown}
pub use Rattle.smx_model.specs.LawfulHistories.{delivered_by, dropped_by, taken_serials, IsTakenIn, Sends, IsLawful}
pub use Rattle.smx_model.specs.LawfulHistories.{IsLawfulThroughout, AreDropsAllowed}
pub use Rattle.smx_model.specs.LeastMovable.{IsLeastMovable}
pub use Rattle.smx_model.specs.Lookups.{free_stream, leaf_stream, live_leaf, live_stream, stream_of, free_fd, driver_of}
pub use Rattle.smx_model.specs.Lookups.{mux_stream, free_minor}
pub use Rattle.smx_model.specs.Ordered.{ComesBefore, IsRising, AllLater, with_inserted, without_first, in_rising_order}
pub use Rattle.smx_model.specs.OrderedParts.{AreListsOrdered}
pub use Rattle.smx_model.specs.Outcomes.{refuse, Outcome}
pub use Rattle.smx_model.specs.Paths.{HasNoCycle, reaches, AreLowersApart}
pub use Rattle.smx_model.specs.Queues.{first_message, with_mark, after_arrival, after_leaving, is_full, queue}
pub use Rattle.smx_model.specs.Removal.{after_sweep, without_links, without_queues_at, serials, serials_that_left}
pub use Rattle.smx_model.specs.Removal.{is_read_below, without_dead_streams}
pub use Rattle.smx_model.specs.RunMarks.{next_of_first, Stays, nowhere, next_of, TurnsOnly, asks_down, asks_up}
pub use Rattle.smx_model.specs.RunMarks.{is_first_at}
pub use Rattle.smx_model.specs.Settling.{live_write_side, IsSettled, after_move, after_settling_within, is_movable}
pub use Rattle.smx_model.specs.Settling.{least_movable, after_move_to, next_open_place, next_place, place_above}
pub use Rattle.smx_model.specs.Settling.{place_below, after_settling}
pub use Rattle.smx_model.specs.SoundLinks.{AreLinksSound, AreIdsRising, AreRoutesSound}
pub use Rattle.smx_model.specs.Standing.{is_persistent, is_named, stands_within, exists, is_below, Stands}
pub use Rattle.smx_model.specs.Swept.{IsSwept}
pub use Rattle.smx_model.specs.Views.{view}
