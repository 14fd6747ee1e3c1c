use Rattle.smx_filters.proofs.AnswerLemmas.{checked, explained, replayed, run_by_one, traced}
use Rattle.smx_filters.proofs.laws.an_input_has_one_answer.Goals as goal

pub returns-clause-checked : goal.returns-clause-checked
returns-clause-checked c =
    checked c.one_transcript_has_one_reading.ensures c.there_is_one_verdict.ensures.one

pub returns-clause-explained : goal.returns-clause-explained
returns-clause-explained c = explained c.one_transcript_has_one_reading.ensures
    c.there_is_one_verdict.ensures.one c.a_transcript_has_one_explanation.ensures

pub returns-clause-replayed : goal.returns-clause-replayed
returns-clause-replayed c = replayed c.one_transcript_has_one_reading.ensures
    c.a_transcript_has_one_replay.ensures.one

pub returns-clause-traced : goal.returns-clause-traced
returns-clause-traced c = traced c.one_transcript_has_one_reading.ensures c.a_transcript_has_one_trace.ensures

pub returns-clause-run : goal.returns-clause-run
returns-clause-run c = run_by_one c.one_text_has_one_reading.ensures
