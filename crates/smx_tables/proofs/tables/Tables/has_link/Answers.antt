use Rattle.std.proofs.Common.{eqb}
use Rattle.smx_tables.proofs.AboveLemmas.{some_with_id, none_with_id}
use Rattle.smx_tables.proofs.tables.Tables.has_link.Goals as goal

pub returns-in-Some : goal.returns-in-Some
returns-in-Some c = rw (← c.self.view_is) (some_with_id (λ l. eqb l.ctl.driver c.args.driver) c.args.id
    c.self.inside.lists.links.links c.in-Some.link.now c.get.ensures.sound.ids.rise c.in-Some.ensures.value)

pub returns-in-None : goal.returns-in-None
returns-in-None c = rw (← c.self.view_is) (none_with_id (λ l. eqb l.ctl.driver c.args.driver) c.args.id
    c.self.inside.lists.links.links c.get.ensures.sound.ids.rise c.in-None.ensures.value)
