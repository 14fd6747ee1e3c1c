use Rattle.smx_model.proofs.HistoryLemmas.{lawful_throughout}
use Rattle.smx_model.proofs.laws.lawful_after_each_entry.Goals as goal

pub returns : goal.returns
returns c = lawful_throughout
