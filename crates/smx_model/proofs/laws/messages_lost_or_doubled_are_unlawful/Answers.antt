use Rattle.smx_model.proofs.UnlawfulLemmas.{lost, doubled, delivered_twice, delivered_and_dropped, dropped_twice}
use Rattle.smx_model.proofs.UnlawfulLemmas.{renumbered, never_taken}
use Rattle.smx_model.proofs.laws.messages_lost_or_doubled_are_unlawful.Goals as goal

pub returns-clause-lost : goal.returns-clause-lost
returns-clause-lost c = lost

pub returns-clause-doubled : goal.returns-clause-doubled
returns-clause-doubled c = doubled

pub returns-clause-delivered_twice : goal.returns-clause-delivered_twice
returns-clause-delivered_twice c = delivered_twice

pub returns-clause-delivered_and_dropped : goal.returns-clause-delivered_and_dropped
returns-clause-delivered_and_dropped c = delivered_and_dropped

pub returns-clause-dropped_twice : goal.returns-clause-dropped_twice
returns-clause-dropped_twice c = dropped_twice

pub returns-clause-renumbered : goal.returns-clause-renumbered
returns-clause-renumbered c = renumbered

pub returns-clause-never_taken : goal.returns-clause-never_taken
returns-clause-never_taken c = never_taken
