use Rattle.smx_tables.proofs.Common.{◌∙◌, rules, may_unlink}
use Rattle.smx_tables.proofs.AboveLemmas.{some_with_id, none_with_id}
use Rattle.smx_tables.proofs.commands_of_links.has_target.Goals as goal

pub returns-in-Some : goal.returns-in-Some
returns-in-Some c = c.may_unlink.ensures ∙ some_with_id (may_unlink c.args.kind c.args.stream) c.args.id
    c.args.links.now.links c.in-Some.link.now c.get.ensures.sound.ids.rise c.in-Some.ensures.value

pub returns-in-None : goal.returns-in-None
returns-in-None c = search (rules, none_with_id, c.get.ensures.sound.ids.rise, c.in-None.ensures.value)
