use Rattle.smx_explain.proofs.ExplanationLemmas.{illegal_reported}
use Rattle.smx_explain.proofs.laws.an_illegal_entry_is_reported.Goals as goal

pub returns : goal.returns
returns c = λ t output allowed h.
    illegal_reported c.spellings_are_words.ensures.driver c.spellings_are_words.ensures.entry t allowed output h
    c.one_value_each.ensures.entry
