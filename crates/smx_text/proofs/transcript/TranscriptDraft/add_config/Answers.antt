use Rattle.std.proofs.Common.{rules, refl}
use Rattle.smx_text.specs.TranscriptLines as line
use Rattle.smx_text.proofs.MachineLemmas.{misplaced, adds}
use Rattle.smx_text.proofs.TranscriptMachineLemmas.{stands}
use Rattle.smx_text.proofs.transcript.TranscriptDraft.add_config.Goals as goal

pub returns-then-ne-clause-answers : goal.returns-then-ne-clause-answers
returns-then-ne-clause-answers c = misplaced (stands c.args.self.now) line.Config (search rules)

pub returns-clause-answers : goal.returns-clause-answers
returns-clause-answers c =
    adds (stands c.args.self.now) line.Config refl c.requires.begun (search rules) refl tt (λ e. cc)
