use Rattle.std.proofs.Common.{rules, refl}
use Rattle.smx_text.specs.TranscriptLines as line
use Rattle.smx_text.proofs.MachineLemmas.{misplaced, too_many, adds, longer_begun}
use Rattle.smx_text.proofs.TranscriptMachineLemmas.{stands}
use Rattle.smx_text.proofs.transcript.TranscriptDraft.add_driver.Goals as goal

pub returns-then-ne-clause-answers : goal.returns-then-ne-clause-answers
returns-then-ne-clause-answers c = misplaced (stands c.args.self.now) (line.Driver c.args.driver) (search rules)

pub returns-then-as_slice-max_drivers-clause-answers : goal.returns-then-as_slice-max_drivers-clause-answers
returns-then-as_slice-max_drivers-clause-answers c =
    too_many (stands c.args.self.now) (line.Driver c.args.driver) (search rules) (search rules)

pub returns-clause-answers : goal.returns-clause-answers
returns-clause-answers c =
    rw c.in_ok-push.ensures.ok (adds (stands c.args.self.now) (line.Driver c.args.driver) refl c.requires.begun
    (search rules) (search rules) c.requires.fits (λ e. cc))

pub returns-in_err-push-clause-answers : goal.returns-in_err-push-clause-answers
returns-in_err-push-clause-answers c =
    let room =
    longer_begun (stands c.args.self.now) (line.Driver c.args.driver) c.requires.begun (search rules)
    (search rules) c.requires.fits (λ e. cc) in
    search rules
