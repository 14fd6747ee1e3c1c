use Rattle.std.proofs.Common.{rules, refl}
use Rattle.smx_text.specs.TranscriptLines as line
use Rattle.smx_text.proofs.MachineLemmas.{misplaced, adds}
use Rattle.smx_text.proofs.TranscriptMachineLemmas.{stands}
use Rattle.smx_text.proofs.transcript.TranscriptDraft.add_next.Goals as goal

pub returns-then-ne-clause-answers : goal.returns-then-ne-clause-answers
returns-then-ne-clause-answers c =
    misplaced (stands c.args.self.now) (line.Next c.args.next_id c.args.next_serial) (search rules)

pub returns-clause-answers : goal.returns-clause-answers
returns-clause-answers c =
    rw c.new_view.ensures (adds (stands c.args.self.now) (line.Next c.args.next_id c.args.next_serial) refl
    c.requires.begun (search rules) refl (c.ranges.next_id.fits, c.ranges.next_serial.fits) (λ e. cc))
