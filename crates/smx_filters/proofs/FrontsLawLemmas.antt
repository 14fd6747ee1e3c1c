-- The fronts text that a run writes is that of one report.
use Rattle.smx_filters.proofs.Common.{◌≡◌, ℕ, ◌+◌, ◌≤◌, true, List, length, map, refl, sym, ap, ◌∙◌, arith}
use Rattle.smx_filters.proofs.Common.{ProgramLists, Entry, DriverSpec, Transcript, IsReportOf, call_of, calls_from}
use Rattle.smx_filters.proofs.Common.{IsWrittenFor}
use Rattle.std.proofs.Common.{suc, [], ◌∷◌, length-append}
use Rattle.std.proofs.lemmas.List.Elements.{All-nil, All-cons}
use Rattle.std.specs.List.{All}
use Rattle.smx_types.specs.declared.command.Command.{Command}
use Rattle.smx_shared.specs.declared.front.Front.{Front}
use Rattle.smx_run.specs.Fronts.{AreFrontsFrom, IsFrontAfter}
use Rattle.smx_filters.specs.FrontsText.{fronts_text}

-- there is one front for each process
as_many : (drivers : List DriverSpec) (history : List Entry) (n : ℕ) (programs : List (List Command))
    (fronts : List Front) → AreFrontsFrom drivers history n programs fronts
    → length fronts ≡ length programs
as_many drivers history n [] [] h = refl
as_many drivers history n (program ∷ programs) (front ∷ fronts) h =
    ap suc (as_many drivers history (n + 1) programs fronts h.1)
as_many drivers history n programs fronts h = absurd h

-- a front is not past the end
not_past : (drivers : List DriverSpec) (history : List Entry) (n : ℕ) (program : List Command) (front : Front)
    → IsFrontAfter drivers history n program front
    → front.entries ≤ length history
not_past drivers history n program front h =
    let sum : length h.before + length h.begins.0 ≡ length history = sym (length-append h.before h.begins.0)
    ∙ ap (λ (es : List Entry). length es) h.begins.1 in
    omega (arith, h.numbers.entries, sum)

-- so no front is past the end
none_past : (drivers : List DriverSpec) (history : List Entry) (n : ℕ) (programs : List (List Command))
    (fronts : List Front) → AreFrontsFrom drivers history n programs fronts
    → All (λ f. f.entries ≤ length history) fronts
none_past drivers history n [] [] h = All-nil (λ (f : Front). f.entries ≤ length history)
none_past drivers history n (program ∷ programs) (front ∷ fronts) h =
    All-cons (λ (f : Front). f.entries ≤ length history) front fronts (not_past drivers history n program front h.0)
    (none_past drivers history (n + 1) programs fronts h.1)
none_past drivers history n programs fronts h = absurd h

-- the fronts text that a run writes
pub of_one_report : (workers : ℕ) (programs : ProgramLists) (output : List ℕ)
    → IsWrittenFor true workers programs output
    → (report : Transcript) × (fronts : List Front) × IsReportOf programs report × (output ≡ fronts_text fronts)
    × (length fronts ≡ length programs.programs) × All (λ f. f.entries ≤ length report.entries) fronts
    × AreFrontsFrom report.drivers report.entries 0 programs.programs fronts
    × (workers ≤ 1 → map call_of report.entries ≡ calls_from 0 programs.programs)
of_one_report workers programs output h = (
  h.report,
  h.fronts,
  h.promised,
  h.written,
  as_many h.report.drivers h.report.entries 0 programs.programs h.fronts h.seen,
  none_past h.report.drivers h.report.entries 0 programs.programs h.fronts h.seen,
  h.seen,
  h.in_turn,
)
