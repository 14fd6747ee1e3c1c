use Rattle.std.proofs.Common.{arith, sym, ◌∙◌}
use Rattle.smx_tables.proofs.ExistingLemmas.{fd_is_there, held_by_one_more, not_below_yet}
use Rattle.smx_tables.proofs.KnownLemmas.{driver_known}
use Rattle.smx_tables.proofs.TablesLemmas.{table_over}
use Rattle.smx_tables.proofs.tables.Tables.link_as.Goals as goal

pub try_link-requires-clause-lower : goal.try_link-requires-clause-lower
try_link-requires-clause-lower c = omega (
  arith,
  table_over c.self.inside c.args.self.now c.self.view_is c.self.invariant,
  driver_known c.args.self.now.drivers c.args.self.now.configuration c.args.process c.args.arg c.in_ok-lower.lower
      c.requires.known (sym c.stream_of-2.ensures ∙ c.in_ok-lower.was),
)

pub hold-requires-clause-there : goal.hold-requires-clause-there
hold-requires-clause-there c = fd_is_there c.self.inside.lists.streams c.args.process c.args.arg c.in_ok-lower.lower
    (rw (← c.self.view_is) at (sym c.stream_of-2.ensures ∙ c.in_ok-lower.was))

pub invariant_of-self-2 : goal.invariant_of-self-2
invariant_of-self-2 c = grind (arith, held_by_one_more, not_below_yet)
