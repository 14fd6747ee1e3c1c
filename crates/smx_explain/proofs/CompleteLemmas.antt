-- From every word on, a line can go on to an end.
use Rattle.smx_explain.proofs.Common.{ℕ, List, [], ◌∷◌, refl, inl, inr, arith, rules, codes, decimal, Version, V1, V2}
use Rattle.smx_explain.proofs.Common.{IsFixed, IsRow, IsValue, later_rows, rows, Choice, ProgramsLine, SessionLine}
use Rattle.smx_explain.proofs.Common.{SessionCommand, Equals, Serials, End, Value, Name, Number, Bytes}
use Rattle.smx_types.specs.declared.command.Sides.TheVariants as sides
use Rattle.smx_types.specs.declared.command.Which.TheVariants as which
use Rattle.smx_types.specs.declared.driver.DriverKind.TheVariants as kind
use Rattle.smx_types.specs.declared.link.LinkKind.TheVariants as link
use Rattle.smx_types.specs.declared.stream.Side.TheVariants as side
use Rattle.smx_explain.specs.declared.kinds.Choice.TheVariants.{TranscriptLine, Command, Switch, Reply, BadDescriptor}
use Rattle.smx_explain.specs.declared.kinds.Choice.TheVariants.{Invalid, Again, NoDevice}
use Rattle.smx_explain.specs.declared.kinds.Value.TheVariants.{DriverKind, Process, Which, Sides, Side, LinkKind}
use Rattle.smx_explain.proofs.RowLemmas.{in_second}
use Rattle.smx_explain.proofs.Spelling.{Spells}

-- a word that is fixed in both versions is fixed in each
pub fixed_in : (version : Version) (choice : Choice) (word : List ℕ) (values : List Value) (next : Choice)
    → IsRow (rows choice) word values next → IsFixed version choice word values next
fixed_in V1 choice word values next is = is
fixed_in V2 choice word values next is = in_second (later_rows choice) (rows choice) word values next is

-- each kind of value has a word
pub value_word : (value : Value) → (word : List ℕ) × IsValue value word
value_word Name = (codes "a", refl)
value_word DriverKind = (codes "leaf", (kind.Leaf, tt, refl))
value_word Number = (decimal 0, (0, omega arith, refl))
value_word Process = (decimal 0, (0, omega arith, refl))
value_word Which = (codes "all", (which.All, tt, refl))
value_word Sides = (codes "r", (sides.R, tt, refl))
value_word Side = (codes "w", (side.Write, tt, refl))
value_word LinkKind = (codes "link", (link.Ordinary, tt, refl))
value_word Bytes = (codes "-", ([], tt, refl))

module _ (version : Version) where
  -- some words complete the line
  abbrev pub CanEnd : List Value → Choice → Type 0
  CanEnd values choice = (words : List (List ℕ)) × Spells version values choice words

  -- a line can be completed if it can go on with a fixed word after which it can be completed
  behind : (choice : Choice) (word : List ℕ) (next : Choice) → IsRow (rows choice) word [] next → CanEnd [] next
      → CanEnd [] choice
  behind choice word next is more = (word ∷ more.0, ([], next, inl (fixed_in version choice word [] next is), more.1))

  -- a line can be completed where it ends
  at_end : CanEnd [] End
  at_end = ([], tt)

  -- a line can be completed at the reply
  at_reply : CanEnd [] Reply
  at_reply = behind Reply (codes "EMFILE") End (search rules) at_end

  -- a line can be completed at the equals sign
  at_equals : CanEnd [] Equals
  at_equals = behind Equals (codes "=") Reply (search rules) at_reply

  -- a line can be completed at every choice
  at_choice : (choice : Choice) → CanEnd [] choice
  at_choice ProgramsLine = behind ProgramsLine (codes "end") End (search rules) at_end
  at_choice TranscriptLine = behind TranscriptLine (codes "end") End (search rules) at_end
  at_choice SessionLine = behind SessionLine (codes "end") End (search rules) at_end
  at_choice Command = behind Command (codes "exit") Equals (search rules) at_equals
  at_choice SessionCommand = (
    codes "exit" ∷ [],
    ([], End, inr (fixed_in version Command (codes "exit") [] Equals (search rules), refl), tt),
  )
  at_choice Switch = behind Switch (codes "on") End (search rules) at_end
  at_choice Equals = at_equals
  at_choice Reply = at_reply
  at_choice BadDescriptor = behind BadDescriptor (codes "fd") End (search rules) at_end
  at_choice Invalid = behind Invalid (codes "below") End (search rules) at_end
  at_choice Again = behind Again (codes "links") End (search rules) at_end
  at_choice NoDevice = behind NoDevice (codes "driver") End (search rules) at_end
  at_choice Serials = ([], tt)
  at_choice End = at_end

  -- a line can be completed from some values and then any choice
  pub can_end : (values : List Value) (choice : Choice) → CanEnd values choice
  can_end [] choice = at_choice choice
  can_end (value ∷ values) choice =
      let word = value_word value in
      let more = can_end values choice in
      (word.0 ∷ more.0, (values, choice, (word.1, refl, refl), more.1))
