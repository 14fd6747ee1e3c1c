use Rattle.std.proofs.Common.{sym, subst}
use Rattle.smx_model.specs.LawfulHistories.{IsLawfulThroughout}
use Rattle.smx_trace.proofs.laws.replays_are_lawful.Goals as goal

pub returns-clause-lawful : goal.returns-clause-lawful
returns-clause-lawful c = λ t r h.
    subst (λ drivers. IsLawfulThroughout drivers r.entries) (sym h.drivers)
    (c.lawful_after_each_entry.ensures t.drivers r.entries h.legal)

pub returns-clause-drops : goal.returns-clause-drops
returns-clause-drops c = λ t r h. c.few_commands_drop.ensures t.drivers r.entries h.legal
