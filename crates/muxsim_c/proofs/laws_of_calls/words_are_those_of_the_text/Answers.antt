use Rattle.std.proofs.Common.{ap, sym, ◌∙◌}
use Rattle.muxsim_c.specs.Calls.{why_words}
use Rattle.muxsim_c.proofs.laws_of_calls.words_are_those_of_the_text.Goals as goal

pub returns : goal.returns
returns c = λ text one other h k.
    h.3 ∙ (ap why_words (c.a_text_has_one_start.ensures.one text h.0 k.0 h.1 k.1 h.2 k.2) ∙ sym k.3)
