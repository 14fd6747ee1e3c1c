use Rattle.std.proofs.Common.{rules, refl}
use Rattle.smx_text.specs.TranscriptLines as line
use Rattle.smx_text.proofs.MachineLemmas.{adds, longer_begun}
use Rattle.smx_text.proofs.TranscriptMachineLemmas.{stands}
use Rattle.smx_text.proofs.transcript.TranscriptDraft.add_entry.Goals as goal

pub returns-in_err-room_for_entry-clause-answers : goal.returns-in_err-room_for_entry-clause-answers
returns-in_err-room_for_entry-clause-answers c = let why =
    c.in_err-room_for_entry.ensures.refused c.args.entry in search rules

pub returns-clause-answers : goal.returns-clause-answers
returns-clause-answers c =
    rw c.in_ok-push.ensures.ok (adds (stands c.args.self.now) (line.Entry c.args.entry) refl c.requires.begun
    (search rules) (search rules) c.requires.fits (λ e. cc))

pub returns-in_err-push-clause-answers : goal.returns-in_err-push-clause-answers
returns-in_err-push-clause-answers c =
    let room =
    longer_begun (stands c.args.self.now) (line.Entry c.args.entry) c.requires.begun (search rules) (search rules)
    c.requires.fits (λ e. cc) in
    search rules
