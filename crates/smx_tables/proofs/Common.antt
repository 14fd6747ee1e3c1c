-- The names that the lemmas of this crate use most.
pub use Rattle.std.proofs.Common.{Bool, sym, find, ℕ, get_or, ◌∷◌, List, refl, ◌&&◌, ◌<◌, None, ◌≡◌, ap, eqb, filter}
pub use Rattle.std.proofs.Common.{Some, arith, [], zero, true, suc, false, map, ◌∙◌, ◌||◌, Option, ◌++◌, not, take, ◌+◌}
pub use Rattle.std.proofs.Common.{length-append, subst, ◌≤◌, rules, inl, inr, ◌-◌, Result, Err, length}
pub use Rattle.std.proofs.Math.Bool.{or-false, and-false, not-not, and-true}
pub use Rattle.std.proofs.lemmas.Bool.{false≢true, or_left, eq-eqb, and_parts, or_cases}
pub use Rattle.std.proofs.lemmas.Bool.Decides.{nat_tests}
pub use Rattle.std.proofs.lemmas.List.{take_more}
pub use Rattle.std.proofs.lemmas.List.Elements.{filter_agree, recursion_from_All}
pub use Rattle.std.proofs.lemmas.List.Folds.{list_any-append}
pub use Rattle.std.proofs.lemmas.Option.{slice_get_within}
pub use Rattle.std.specs.List.{list_any, AllByRecursion, list_all, All}
pub use Rattle.std.specs.Option.{option_map_or}
pub use Rattle.std.specs.Prelude.{nat_lt, slice_get, vec_capacity}
pub use Rattle.smx_types.specs.declared.driver.DriverSpec.{DriverSpec}
pub use Rattle.smx_types.specs.declared.link.Link.{Link}
pub use Rattle.smx_types.specs.declared.stream.Descriptor.{Descriptor}
pub use Rattle.smx_types.specs.declared.stream.Place.{Place}
pub use Rattle.smx_types.specs.declared.stream.StreamId.{StreamId}
pub use Rattle.smx_types.specs.declared.reply.Fault.{Fault}
pub use Rattle.smx_types.specs.declared.reply.Reply.{Reply}
pub use Rattle.smx_links.specs.LinkLists.{is_one_of, others_of}
pub use Rattle.smx_model.proofs.EachLemmas.{each_find}
pub use Rattle.smx_model.specs.Configuration.{same_stream, same_place, QueuedMessage, Configuration}
pub use Rattle.smx_model.specs.Hangups.{is_hung}
pub use Rattle.smx_model.specs.KnownStreams.{IsKnown}
pub use Rattle.smx_model.specs.Paths.{AreLowersApart}
pub use Rattle.smx_model.specs.Removal.{without_dead_streams, without_links, serials_that_left, after_sweep}
pub use Rattle.smx_model.specs.SoundLinks.{AreLinksSound}
pub use Rattle.smx_model.specs.Standing.{is_below, stands_within, is_named, is_persistent, exists}
pub use Rattle.smx_streams.specs.StreamTables.{StreamTable, number_at, HasHolds, LeavesHungs}
pub use Rattle.smx_model.specs.Commands.{outcome, done_outcome}
pub use Rattle.smx_model.specs.DriverList.{is_mux, minors_of}
pub use Rattle.smx_model.specs.Lookups.{leaf_stream}
pub use Rattle.smx_model.specs.Outcomes.{refuse, Outcome}
pub use Rattle.smx_tables.specs.DroppedMessages.{is_flushed_at}
pub use Rattle.smx_tables.specs.ExistingStreams.{TellsExisting, AreHeld, is_held, IsReleasing, is_loose, holds_below}
pub use Rattle.smx_tables.specs.ListedLinks.{is_listed, is_read_below_listed, AreIdsOf, is_orphaned}
pub use Rattle.smx_tables.specs.ModelOfLists.{configuration_of}
pub use Rattle.smx_tables.specs.TouchedStreams.{without_streams, IsTouched, is_dead, AreReleased, is_watched}
pub use Rattle.smx_tables.specs.TouchedStreams.{is_there_or_touched}
pub use Rattle.smx_tables.specs.Machine.{Machine}
pub use Rattle.smx_tables.specs.ModelOfTables.{TablesInvariant, machine_of}
pub use Rattle.smx_tables.specs.UnlinkTargets.{may_unlink}
pub use Rattle.smx_tables.specs.declared.tables.Tables.TheInside.{Inside}
