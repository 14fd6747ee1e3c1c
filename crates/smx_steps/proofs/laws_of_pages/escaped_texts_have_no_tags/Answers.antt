use Rattle.smx_steps.proofs.EscapeLemmas.{no_tags}
use Rattle.smx_steps.proofs.laws_of_pages.escaped_texts_have_no_tags.Goals as goal

pub returns : goal.returns
returns c = no_tags
