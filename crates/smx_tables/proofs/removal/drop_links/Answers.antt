use Rattle.smx_tables.proofs.Common.{sym, ◌∙◌, configuration_of}
use Rattle.smx_tables.proofs.RemovalLemmas.{is_nothing, nothing_removed, none_listed, removed_is}
use Rattle.smx_tables.proofs.removal.drop_links.Goals as goal

pub returns-then-is_empty-clause-value : goal.returns-then-is_empty-clause-value
returns-then-is_empty-clause-value c = nothing_removed (configuration_of c.args.lists.now) c.args.gone.now
    (is_nothing c.args.gone.now (sym c.is_empty.ensures ∙ c.if-is_empty.true))

pub returns-then-is_empty-clause-links : goal.returns-then-is_empty-clause-links
returns-then-is_empty-clause-links c = none_listed c.args.gone.now c.args.lists.now.links.links
    (is_nothing c.args.gone.now (sym c.is_empty.ensures ∙ c.if-is_empty.true))

pub returns-clause-value : goal.returns-clause-value
returns-clause-value c = λ goes e.
    rw (c.unroute_links.ensures, c.drop_below.ensures.flow, c.drop_below.ensures.fulls, c.remove_each.ensures.rest)
    (removed_is (configuration_of c.args.lists.now) c.args.gone.now c.remove_each.ensures.sound.sound.lowers
    c.remove_each.ensures.sound.ids.rise goes e)
