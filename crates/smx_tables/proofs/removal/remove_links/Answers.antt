use Rattle.smx_tables.proofs.Common.{◌∙◌, refl, not, is_one_of}
use Rattle.smx_tables.proofs.LengthLemmas.{fewer}
use Rattle.smx_tables.proofs.RemovalLemmas.{ids_in_order}
use Rattle.smx_tables.proofs.removal.remove_links.Goals as goal

pub returns-clause-value : goal.returns-clause-value
returns-clause-value c = λ goes e. c.drop_links.ensures.value goes
    (ids_in_order goes c.args.lists.now.links.links c.args.gone.now e)
    ∙ rw (c.release_each.ensures.fds, c.drop_links.ensures.streams) refl

pub returns-clause-fewer : goal.returns-clause-fewer
returns-clause-fewer c = rw c.drop_links.ensures.links
    (fewer (λ l. not (is_one_of c.args.gone.now l)) c.args.lists.now.links.links)
