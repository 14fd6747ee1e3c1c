-- It owns nothing, so it may go to another thread.
use denote.Param.Send.{IsSend}
use denote.RattleType.{RattleType}
use Rattle.smx_shared.specs.contracts.entry_sink.GhostValue.{the_row}

pub send : (T : RattleType) → IsSend (the_row T)
send T = record { owned = λ d vs. ((λ vss. (tt, ((λ uss. (tt, tt)), tt))), tt); leaving = λ k f vs. tt }
