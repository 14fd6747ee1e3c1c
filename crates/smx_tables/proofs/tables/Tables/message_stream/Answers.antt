use Rattle.std.proofs.Common.{arith}
use Rattle.smx_tables.proofs.SendLemmas.{answers_known, free_known, live_known, live_leaf_known}
use Rattle.smx_tables.proofs.tables.Tables.message_stream.Goals as goal

pub returns-in-Inject-clause-known : goal.returns-in-Inject-clause-known
returns-in-Inject-clause-known c = grind (arith, answers_known, live_leaf_known)

pub returns-in-Write-clause-known : goal.returns-in-Write-clause-known
returns-in-Write-clause-known c = grind (arith, answers_known, live_known)

pub returns-in-Read-clause-known : goal.returns-in-Read-clause-known
returns-in-Read-clause-known c = grind (arith, answers_known, free_known)
