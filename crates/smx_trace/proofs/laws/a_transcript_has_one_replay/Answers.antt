use Rattle.smx_trace.proofs.ReplayLemmas as replays
use Rattle.smx_trace.proofs.laws.a_transcript_has_one_replay.Goals as goal

pub returns-clause-always : goal.returns-clause-always
returns-clause-always c = replays.always

pub returns-clause-one : goal.returns-clause-one
returns-clause-one c = replays.one c.histories_are_determined.ensures

pub returns-clause-calls_alone : goal.returns-clause-calls_alone
returns-clause-calls_alone c = replays.calls_alone
