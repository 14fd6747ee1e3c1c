-- Holds in equal tables and in empty tables.
use Rattle.smx_tables.proofs.Common.{◌≡◌, List, [], sym, subst, arith, Link, StreamId, StreamTable, number_at}
use Rattle.smx_tables.proofs.Common.{AreHeld}

-- equal links and equal streams have the same holds
pub held_again : (links same : List Link) (t u : StreamTable) → AreHeld links t → same ≡ links → u ≡ t → AreHeld same u
held_again links same t u h e f = grind arith

-- without links and holds, each stream below a link is held
pub held_at_first : (links : List Link) (t : StreamTable) → links ≡ [] → ((s : StreamId) → number_at t.holds s ≡ 0)
    → AreHeld links t
held_at_first links t e none = subst (λ (ls : List Link). AreHeld ls t) (sym e) none
