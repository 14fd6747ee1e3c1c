use Rattle.std.proofs.Common.{rules}
use Rattle.smx_text.specs.TranscriptLines as line
use Rattle.smx_text.proofs.MachineLemmas.{misplaced, too_many}
use Rattle.smx_text.proofs.TranscriptMachineLemmas.{stands}
use Rattle.smx_text.proofs.transcript.TranscriptDraft.room_for_entry.Goals as goal

pub returns-then-ne-clause-refused : goal.returns-then-ne-clause-refused
returns-then-ne-clause-refused c = λ e. misplaced (stands c.args.self.now) (line.Entry e) (search rules)

pub returns-then-as_slice-ge-MAX_COMMANDS-clause-refused : goal.returns-then-as_slice-ge-MAX_COMMANDS-clause-refused
returns-then-as_slice-ge-MAX_COMMANDS-clause-refused c =
    λ e. too_many (stands c.args.self.now) (line.Entry e) (search rules) (search rules)
