-- The names that the lemmas of this crate use most.
pub use Rattle.std.proofs.Common.{List, arith, ◌≢◌, ◌≤◌, suc, length, ◌∙◌, ◌≡◌, ◌++◌, take, drop, ◌<◌, ap}
pub use Rattle.std.proofs.Common.{slice_index, sym, refl, false, Bool, zero, true, ◌+◌, ℕ, [], ◌∷◌, ◌-◌, eqb, get_or}
pub use Rattle.std.proofs.Common.{map, rules, cond, None, Some, Option, ◌^◌, append_assoc, ◌||◌, ◌*◌, ◌&&◌}
pub use Rattle.std.proofs.lemmas.Bool.{and_parts}
pub use Rattle.std.proofs.lemmas.Bool.Decides.{nat_tests}
pub use Rattle.std.proofs.lemmas.Grind.{common_steps}
pub use Rattle.std.proofs.lemmas.List.{take_all, append_cancel_left}
pub use Rattle.std.proofs.lemmas.Result.{err_from_is_err_and}
pub use Rattle.std.specs.Char.{is_ascii_digit}
pub use Rattle.std.specs.Fmt.{decimal}
pub use Rattle.std.specs.List.{AllByRecursion, list_all}
pub use Rattle.std.specs.Str.{bytes_eq}
pub use Rattle.std.specs.Str.Parse.{digits_value}
pub use Rattle.smx_types.specs.Versions.{is_hangup}
pub use Rattle.smx_types.specs.declared.command.Command.{Command}
pub use Rattle.smx_types.specs.declared.reply.Fault.{Fault}
pub use Rattle.smx_types.specs.declared.reply.Reply.{Reply}
pub use Rattle.smx_types.specs.declared.version.Version.TheVariants.{V1}
pub use Rattle.smx_words.specs.HexWords.{hex_word, is_digit}
pub use Rattle.smx_words.specs.LineReading.{IsReadAs}
pub use Rattle.smx_words.specs.Spellable.{FitsAlways, FitsReply, FitsNumber, FitsName, FitsProcess, FitsBytes}
pub use Rattle.smx_words.specs.Spelling.{call_words, entry_words, fault_words, command_words, reply_words}
pub use Rattle.smx_words.specs.Verbs.{reply_verb_word}
pub use Rattle.smx_words.specs.Words.{IsFree, SPACE, EQUALS, IsWord, line_of}
