use Rattle.smx_filters.specs.Products.{making}
use Rattle.smx_filters.specs.RunText.{running}
use Rattle.muxsim.proofs.EndLemmas.{done_for, judged, live_done, otherwise}
use Rattle.muxsim.proofs.laws_of_ends.a_status_tells_what_was_done.Goals as goal

pub returns-clause-run : goal.returns-clause-run
returns-clause-run c = λ workers fronts explain d code input output h w.
    done_for d code input output w (running fronts workers) h.answer h.filtered h.status

pub returns-clause-made : goal.returns-clause-made
returns-clause-made c = λ product explain d code input output h w.
    done_for d code input output w (making product) h.answer h.filtered h.status

pub returns-clause-live : goal.returns-clause-live
returns-clause-live c = live_done

pub returns-clause-legal : goal.returns-clause-legal
returns-clause-legal c = λ explain d code input output h w.
    judged d code input output w explain h.answer h.filtered h.status

pub returns-clause-not_legal : goal.returns-clause-not_legal
returns-clause-not_legal c = λ explain d code input output h w.
    otherwise d code input output w explain h.answer h.filtered h.status
