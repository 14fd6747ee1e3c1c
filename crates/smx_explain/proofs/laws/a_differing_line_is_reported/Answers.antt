use Rattle.smx_explain.proofs.ExplanationLemmas.{differs_reported}
use Rattle.smx_explain.proofs.laws.a_differing_line_is_reported.Goals as goal

pub returns : goal.returns
returns c = λ t output allowed h.
    differs_reported c.spellings_are_words.ensures.driver c.spellings_are_words.ensures.entry t allowed output h
    c.histories_are_determined.ensures
