use Rattle.std.proofs.Common.{[], ◌∷◌, refl}
use Rattle.smx_model.specs.Worked.Reports.{copied, exited, opened}
use Rattle.smx_run.proofs.FrontLemmas.{past_the_end, too_early, with_a_link}
use Rattle.smx_run.proofs.laws_of_runs.fronts_of_an_example.Goals as goal

pub returns-clause-fronts : goal.returns-clause-fronts
returns-clause-fronts c = (
  record {
    before = opened ∷ exited ∷ copied ∷ [];
    begins = ([], refl);
    numbers = record { entries = refl; links = refl };
    holds = refl;
  },
  (
    record {
      before = opened ∷ exited ∷ [];
      begins = (copied ∷ [], refl);
      numbers = record { entries = refl; links = refl };
      holds = refl;
    },
    tt,
  ),
)

pub returns-clause-not_earlier : goal.returns-clause-not_earlier
returns-clause-not_earlier c h = too_early _ refl h.0

pub returns-clause-not_past_the_end : goal.returns-clause-not_past_the_end
returns-clause-not_past_the_end c h = past_the_end 1 _ _ refl h.1.0

pub returns-clause-not_with_a_link : goal.returns-clause-not_with_a_link
returns-clause-not_with_a_link c h = with_a_link 0 _ _ refl refl h.0
