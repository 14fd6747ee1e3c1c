-- The names that the lemmas of this crate use most.
pub use Rattle.std.proofs.Common.{subst, [], refl, Option, Bor, ◌∙◌, ◌+◌, None, Some, inl, arith, ◌≡◌, ◌∷◌, length}
pub use Rattle.std.proofs.Common.{List, inr, ◌++◌, sym, ap, append_assoc, ℕ, true, rules, false, Bool, ◌<◌, map, take}
pub use Rattle.std.proofs.Common.{◌≢◌, ◌≤◌, drop}
pub use Rattle.std.specs.Fmt.{decimal}
pub use Rattle.std.specs.List.{AllByRecursion}
pub use Rattle.std.specs.Prelude.{codes}
pub use Rattle.smx_types.specs.declared.command.Entry.{Entry}
pub use Rattle.smx_types.specs.declared.driver.DriverSpec.{DriverSpec}
pub use Rattle.smx_types.specs.declared.version.Version.{Version}
pub use Rattle.smx_types.specs.declared.version.Version.TheVariants.{V2, V1}
pub use Rattle.smx_text.specs.Grammar.{IsOneLine}
pub use Rattle.smx_words.specs.Spellable.{FitsCommandIn, CanTell, FitsNumber}
pub use Rattle.smx_words.specs.Spelling.{command_words}
pub use Rattle.smx_words.specs.Words.{IsFree, SPACE, lines_text, LINE_FEED}
pub use Rattle.smx_explain.specs.Columns.{spaced, IsLine, IsColumn, first_choice, IsWhole, LeadTo, IsPartAt, first_of}
pub use Rattle.smx_explain.specs.Differences.{IsFirstDifference, AreAlike}
pub use Rattle.smx_explain.specs.Rows.{GoesOn, IsFixed, IsRow, rows_in, WordRow, later_rows, IsValue, rows, IsOther}
pub use Rattle.smx_explain.specs.declared.columns.LineColumn.{LineColumn}
pub use Rattle.smx_explain.specs.declared.kinds.Choice.{Choice}
pub use Rattle.smx_explain.specs.declared.kinds.Choice.TheVariants.{Equals, SessionCommand, Serials, ProgramsLine}
pub use Rattle.smx_explain.specs.declared.kinds.Choice.TheVariants.{End, SessionLine}
pub use Rattle.smx_explain.specs.declared.kinds.LineKind.{LineKind}
pub use Rattle.smx_explain.specs.declared.kinds.LineKind.TheVariants.{Session}
pub use Rattle.smx_explain.specs.declared.kinds.Value.{Value}
pub use Rattle.smx_explain.specs.declared.kinds.Value.TheVariants.{Number, Name, Bytes}
pub use Rattle.smx_explain.specs.declared.kinds.Wanted.{Wanted}
