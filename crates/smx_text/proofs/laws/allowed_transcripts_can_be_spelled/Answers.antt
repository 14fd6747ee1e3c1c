use Rattle.smx_text.proofs.TranscriptWholeLemmas.{allowed_spellable, spellable_allowed}
use Rattle.smx_text.proofs.laws.allowed_transcripts_can_be_spelled.Goals as goal

pub returns-clause-spelled : goal.returns-clause-spelled
returns-clause-spelled c version t allowed = (allowed_spellable version t allowed).0

pub returns-clause-told : goal.returns-clause-told
returns-clause-told c version t allowed = (allowed_spellable version t allowed).1

pub returns-clause-allowed : goal.returns-clause-allowed
returns-clause-allowed c = spellable_allowed
