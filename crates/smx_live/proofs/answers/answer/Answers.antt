use Rattle.smx_live.proofs.answers.answer.Goals as goal

pub returns-then-asks_to_show : goal.returns-then-asks_to_show
returns-then-asks_to_show g c = c.show.ensures c.args.explain

pub returns-then-eq : goal.returns-then-eq
returns-then-eq g c = c.end.ensures c.args.explain
