use Rattle.smx_trace.proofs.PrefixLemmas.{first_of_replay, view_of_first}
use Rattle.smx_trace.proofs.laws.the_first_entries_are_those_of_the_replay.Goals as goal

pub returns-clause-entries : goal.returns-clause-entries
returns-clause-entries c = first_of_replay c.histories_are_determined.ensures c.prefixes_are_legal.ensures

pub returns-clause-shown : goal.returns-clause-shown
returns-clause-shown c = view_of_first c.histories_are_determined.ensures c.prefixes_are_legal.ensures
