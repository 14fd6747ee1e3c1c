-- The names that the lemmas of this crate use most.
pub use Rattle.std.proofs.Common.{subst, ◌+◌, suc, [], drop, ap, ◌≢◌, inl, refl, List, All, ◌<◌, map, ◌≡◌, get_or}
pub use Rattle.std.proofs.Common.{inr, ◌%◌, append_assoc, ◌∷◌, ◌∙◌, sym, length, ℕ, arith, ◌++◌, false, ◌≤◌, take}
pub use Rattle.std.proofs.Common.{None, rules, vec_len}
pub use Rattle.std.proofs.lemmas.Bool.{cases_lt}
pub use Rattle.std.proofs.lemmas.Bool.Decides.{nat_tests}
pub use Rattle.std.proofs.lemmas.List.{append-nil, map-append, length-map, length-append}
pub use Rattle.std.specs.List.{range_with_len}
pub use Rattle.std.specs.Prelude.{◌==◌, vec_capacity}
pub use Rattle.std.specs.Vec.Iter.{into_iter_items, into_iter_len}
pub use Rattle.smx_types.specs.declared.command.Command.{Command}
pub use Rattle.smx_types.specs.declared.command.Entry.{Entry}
pub use Rattle.smx_types.specs.declared.limits.TheConstants.{MAX_PROCESSES}
pub use Rattle.smx_model.specs.Histories.{commands_of, call_of, HoldsPrograms}
pub use Rattle.smx_shared.specs.Recorded.{IsSoundSystem, Recorded}
pub use Rattle.smx_shared.specs.Seats.{Seated, SharedId}
pub use Rattle.smx_shared.specs.declared.front.Front.{Front}
pub use Rattle.smx_run.specs.Assignments.{assignment_of, called, known_at, IsFresh, given, assigned_calls, AreFresh}
pub use Rattle.smx_run.specs.Assignments.{made_calls}
pub use Rattle.smx_run.specs.Fronts.{AreFrontsFrom}
pub use Rattle.smx_run.specs.Gathering.{IsMet, IsBorneOut}
pub use Rattle.smx_run.specs.Meeting.{IsKnownTo, IsBorneOutBy}
pub use Rattle.smx_run.specs.ProgramOrder.{calls_of, Calls, numbered, calls_from}
pub use Rattle.smx_run.specs.declared.worker.EndedProgram.{EndedProgram}
