-- The words of faults, typed in by hand.
use Rattle.std.specs.Prelude.{◌≡◌, codes, refl}
use Rattle.std.specs.Fmt.{digits}
use Rattle.smx_run.specs.FaultWords.{run_fault_words}
use Rattle.smx_run.specs.declared.run_fault.RunFault.TheVariants as run

-- the history is full
pub full_words : run_fault_words run.HistoryFull ≡ codes "history full"
full_words = refl

-- more entries are asked for than there are
pub few_words : run_fault_words (run.FewEntries 7) ≡ codes "the transcript has 7 entries"
unfolding digits
few_words = refl

-- a page is over a limit
pub long_words : run_fault_words (run.LongPage 1001)
    ≡ codes "a page has room for fewer than 1001 entries, see replay --at"
unfolding digits
long_words = refl
