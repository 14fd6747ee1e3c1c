use Rattle.smx_text.proofs.Common.{ap, refl, rules, subst, Transcript, Stage, grammar_of, lines}
use Rattle.std.proofs.Common.{◌≡◌, Some}
use Rattle.smx_text.specs.declared.text_fault.Cause.TheVariants as cause
use Rattle.smx_text.specs.declared.transcript.Stage.TheVariants as stage
use Rattle.smx_text.specs.Reading.{EndsAs}
use Rattle.smx_text.specs.TranscriptLines as line
use Rattle.smx_text.proofs.MachineLemmas.{finished, misplaced}
use Rattle.smx_text.proofs.TranscriptDrafts.{seen}
use Rattle.smx_text.proofs.GrammarLemmas.{refuses}
use Rattle.smx_text.proofs.TranscriptGrammarLemmas.{well_made}
use Rattle.smx_text.proofs.TranscriptMachineLemmas.{stands}
use Rattle.smx_text.proofs.transcript.TranscriptDraftDraft.finish.Goals as goal

pub returns-then-ne : goal.returns-then-ne
returns-then-ne c =
    refuses (well_made _) _ line.End _ tt refl cause.Form (misplaced (stands c.args.self) line.End (search rules))

pub returns : goal.returns
returns c =
    let view : c.args.self.stage ≡ stage.View = search rules in
    let same = ap (λ (s : Stage). record c.args.self.transcript { view = seen s c.args.self.transcript.view }) view in
    subst (λ (t : Transcript). EndsAs (grammar_of c.args.self) (lines c.args.self) (Some t)) same
    (finished (stands c.args.self) c.requires.begun (search rules))
