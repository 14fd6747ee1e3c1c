use Rattle.smx_run.specs.Refusals.{answer_of}
use Rattle.smx_filters.proofs.ExplainLawLemmas.{keeps_all}
use Rattle.smx_filters.proofs.InMemoryLemmas as memory
use Rattle.smx_filters.proofs.laws.faults_are_explained_in_memory.Goals as goal

pub returns-clause-check : goal.returns-clause-check
returns-clause-check c = λ input left output ended flushed answer h.
    memory.ends _ input left output ended flushed (answer_of answer) h.filtered

pub returns-clause-run : goal.returns-clause-run
returns-clause-run c = λ workers fronts input left output ended flushed answer h.
    memory.ends _ input left output ended flushed (answer_of answer) h.filtered

pub returns-clause-check_keeps : goal.returns-clause-check_keeps
returns-clause-check_keeps c = λ input left output ended flushed refusal.
    keeps_all _ input _ _ _ ended flushed _ _ refusal

pub returns-clause-run_keeps : goal.returns-clause-run_keeps
returns-clause-run_keeps c = λ workers fronts input left output ended flushed refusal.
    keeps_all _ input _ _ _ ended flushed _ _ refusal

pub returns-clause-none_kept : goal.returns-clause-none_kept
returns-clause-none_kept c = λ input left output ended flushed refusal h. h.given_up
