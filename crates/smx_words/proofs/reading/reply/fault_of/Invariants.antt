use Rattle.std.proofs.Common.{◌≢◌}
use Rattle.std.specs.List.{AllWithin}
use Rattle.smx_words.specs.Spelling.{fault_words}
use Rattle.smx_words.specs.Words.{line_of}
use Rattle.smx_words.proofs.reading.reply.fault_of.Given as goal

-- the line is not the words of any fault that it was compared with
abbrev pub invariant-loop-fault : goal.invariant-loop-fault
invariant-loop-fault l = AllWithin (λ f. l.line ≢ line_of (fault_words f)) l.fault-items 0 l.fault-index
