use Rattle.smx_model.proofs.DeliveryLemmas.{arrive_whole, stay_whole}
use Rattle.smx_model.proofs.laws.messages_arrive_whole.Goals as goal

pub returns-clause-delivered : goal.returns-clause-delivered
returns-clause-delivered c = arrive_whole

pub returns-clause-queued : goal.returns-clause-queued
returns-clause-queued c = stay_whole
