use Rattle.smx_live.proofs.Common.{[], ◌∷◌, arith, false, refl, rules, codes}
use Rattle.smx_live.proofs.OverTableLemmas.{finished, table_once}
use Rattle.smx_live.proofs.WorkedLiveLemmas.{behind_drivers, drivers_lines}
use Rattle.smx_live.proofs.laws_of_live.where_a_table_is_over.Goals as goal

pub returns-clause-finished : goal.returns-clause-finished
returns-clause-finished c = finished

pub returns-clause-behind_drivers : goal.returns-clause-behind_drivers
returns-clause-behind_drivers c = behind_drivers

pub returns-clause-not_before_drivers : goal.returns-clause-not_before_drivers
returns-clause-not_before_drivers c = λ t.
    let same = table_once false (codes "programs 2\ndrivers\n") (codes "programs 2\n") _ _ behind_drivers t refl in
    absurd (cc same.0)

pub returns-clause-unfinished : goal.returns-clause-unfinished
returns-clause-unfinished c =
    (codes "programs 2" ∷ codes "drivers" ∷ [], [], codes "drive", refl, drivers_lines, search (rules, arith))

pub returns-clause-not_unfinished : goal.returns-clause-not_unfinished
returns-clause-not_unfinished c = λ is.
    let ended = finished false (codes "programs 2\ndrivers\n") (codes "drive\n") behind_drivers is in
    absurd (cc ended.0)
