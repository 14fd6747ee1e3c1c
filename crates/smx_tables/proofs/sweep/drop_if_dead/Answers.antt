use Rattle.smx_tables.proofs.Common.{sym, ◌∙◌, configuration_of}
use Rattle.smx_tables.proofs.DeadStreamLemmas.{none_gone, one_gone}
use Rattle.smx_tables.proofs.sweep.drop_if_dead.Goals as goal

pub returns-then-not-exists-clause-value : goal.returns-then-not-exists-clause-value
returns-then-not-exists-clause-value c =
    one_gone (configuration_of c.args.lists.now) c.args.lists.now.streams c.args.stream
    c.unbind.new.binds c.drop_sides.new.queues.flow c.drop_sides.new.queues.fulls
    (sym c.exists.ensures.answer ∙ c.if-not-exists.true)
    c.unbind.ensures c.drop_sides.ensures.flow c.drop_sides.ensures.fulls

pub returns-else-not-exists-clause-value : goal.returns-else-not-exists-clause-value
returns-else-not-exists-clause-value c =
    none_gone (configuration_of c.args.lists.now) c.args.lists.now.streams c.args.stream
    (sym c.exists.ensures.answer ∙ c.if-not-exists.false)
