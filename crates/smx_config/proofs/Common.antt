-- The names that the lemmas of this crate use most.
pub use Rattle.std.proofs.Common.{Some, List, ◌<◌, subst, ◌∙◌, ℕ, ◌≡◌, inl, ap, take, length, inr, Ok, refl, arith}
pub use Rattle.std.proofs.Common.{sym, true, Option, Bool, false, suc, None, ◌&&◌, [], eqb, ◌∷◌}
pub use Rattle.std.proofs.lemmas.Bool.{cases_Bool, false≢true}
pub use Rattle.std.proofs.lemmas.Option.{same_Some}
pub use Rattle.std.specs.List.{list_any}
pub use Rattle.std.specs.Prelude.{IsSome}
pub use Rattle.smx_types.specs.declared.driver.DriverSpec.{DriverSpec}
pub use Rattle.smx_types.specs.declared.link.Link.{Link}
pub use Rattle.smx_types.specs.declared.message.Message.{Message}
pub use Rattle.smx_types.specs.declared.reply.Reply.{Reply}
pub use Rattle.smx_types.specs.declared.stream.Place.{Place}
pub use Rattle.smx_types.specs.declared.stream.StreamId.{StreamId}
pub use Rattle.smx_tables.specs.Machine.{Machine}
pub use Rattle.smx_model.proofs.LeastMarkedLemmas.{none_is_least}
pub use Rattle.smx_model.specs.Commands.{outcome}
pub use Rattle.smx_model.specs.Configuration.{same_place, Configuration, same_stream}
pub use Rattle.smx_model.specs.KeptConfigurations.{IsSound}
pub use Rattle.smx_model.specs.KnownStreams.{IsKnown}
pub use Rattle.smx_model.specs.Queues.{is_full, first_message}
pub use Rattle.smx_model.specs.RunMarks.{turned_by_move, next_of, next_of_first}
pub use Rattle.smx_model.specs.Settling.{next_open_place, after_move}
pub use Rattle.smx_queues.proofs.PlaceLemmas.{place_is}
pub use Rattle.smx_queues.specs.Bits.{has_bit, BitTable}
pub use Rattle.smx_queues.specs.PlaceLists.{places_of}
pub use Rattle.smx_queues.specs.Rings.{at}
pub use Rattle.smx_config.specs.Marking.{AreMarks, IsWoken, IsAt, IsMarkedWhere, AreKept}
pub use Rattle.smx_config.specs.Moves.{IsFullAt, IsNextOf}
pub use Rattle.smx_config.specs.Ways.{AreHops}
pub use Rattle.smx_config.specs.declared.marks.Marks.{Marks}
