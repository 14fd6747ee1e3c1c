-- An input has one answer, and what a run writes spells one report.
use Rattle.smx_filters.proofs.Common.{◌≡◌, ◌≢◌, ℕ, ◌≤◌, Bool, true, false, List, length, map, Option, Result, Ok, Err}
use Rattle.smx_filters.proofs.Common.{refl, sym, ap, subst, ◌∙◌, arith, inl, inr, ProgramLists, Entry, DriverSpec}
use Rattle.smx_filters.proofs.Common.{Transcript, Version, IsReportOf, call_of, Spells, transcript_grammar}
use Rattle.smx_filters.proofs.Common.{transcript_text, TextFault, IsVerdict, ConfigFault, Verdict, Legal, RefusesAlone}
use Rattle.smx_filters.proofs.Common.{RunFault, checking, Answers, Filter, GivesFor, IsWrittenFor, running}
use Rattle.smx_filters.proofs.Common.{MainFault, Refused, Text, TooLong, ReadFailed, WriteFailed}
use Rattle.std.proofs.Common.{◌++◌}
use Rattle.smx_types.specs.declared.view.ConfigView.{ConfigView}
use Rattle.smx_model.specs.DriverList.{IsDriverList}
use Rattle.smx_text.specs.ProgramsText.{programs_grammar}
use Rattle.smx_config.specs.declared.config_fault.ConfigFault.TheVariants as config
use Rattle.smx_run.specs.declared.product.Product.TheVariants.{Replay, Trace}
use Rattle.smx_run.specs.declared.run_fault.RunFault.TheVariants as run
use Rattle.smx_model.proofs.HistoryLemmas.{determined}
use Rattle.smx_config.proofs.DriverFaultLemmas.{one_fault as one_refusal}
use Rattle.smx_filters.proofs.OneProcessLemmas.{in_turn}
use Rattle.smx_run.proofs.RefusalLemmas.{only_memory_refuses}
use Rattle.smx_run.proofs.ReadingLemmas.{HasOneReading, no_fault, one_fault, one_value}
use Rattle.smx_filters.proofs.ReplayTextLemmas.{HasOneReplay, part_drivers}
use Rattle.smx_trace.specs.Traces.{IsTraceText}
use Rattle.smx_explain.specs.Explanations.{IsExplanation}
use Rattle.smx_filters.specs.CheckText.{verdict_line}
use Rattle.smx_filters.specs.ExplainText.{explaining}
use Rattle.smx_filters.specs.Filters.{HasEnoughMemory, RefusesFor}
use Rattle.smx_filters.specs.Products.{IsPastEnd, RefusesPart, asked_part, making}
use Rattle.smx_filters.specs.RunText.{IsTranscriptFor}

-- ---- reports

-- the transcript of a version with these drivers, entries and view
abbrev transcript : Version → List DriverSpec → List Entry → ConfigView → Transcript
transcript version drivers entries v = record { version = version; drivers = drivers; entries = entries; view = v }

-- transcripts of one version with the same drivers, entries and view are equal
transcript_of : (n : Version) (ds ds2 : List DriverSpec) (es es2 : List Entry) (v v2 : ConfigView) → ds ≡ ds2 → es ≡ es2
    → v ≡ v2 → transcript n ds es v ≡ transcript n ds2 es2 v2
transcript_of n ds ds2 es es2 v v2 e f g = cc

-- the calls determine the drivers, the history and the view of a report
one_report : (programs : ProgramLists) (r s : Transcript) → IsReportOf programs r → IsReportOf programs s
    → map call_of r.entries ≡ map call_of s.entries → r ≡ record s { version = r.version }
one_report programs r s h k e = grind (arith, determined, transcript_of)

-- ---- what other crates' laws say

-- a transcript's contents have one verdict
abbrev pub HasOneVerdict : Type 0
HasOneVerdict = (drivers : List DriverSpec) (entries : List Entry) (shown : ConfigView) (v w : Verdict)
    → IsVerdict drivers entries shown v → IsVerdict drivers entries shown w → v ≡ w

-- the reports of programs are judged legal
abbrev pub AreJudgedLegal : Type 0
AreJudgedLegal = (programs : ProgramLists) (report : Transcript) → IsReportOf programs report
    → IsVerdict report.drivers report.entries report.view Legal

-- ---- one answer

-- The answer of a filter, unless memory runs out, if it gives only one result for a value that fits, refuses it for
-- only one fault, and not both.
module _ {V K T : Type 0} (filter : Filter V K T) (reading : HasOneReading filter.grammar) (Fits : V → Type 0)
    (given : (v : V) → Fits v → (a b : T) (x y : List ℕ) → filter.Gives v a x → filter.Gives v b y → (a ≡ b) × (x ≡ y))
    (refused : (v : V) → Fits v → (r s : RunFault) → filter.Refuses v r → filter.Refuses v s → r ≢ run.NoMemory
    → s ≢ run.NoMemory → r ≡ s)
    (not_both : (v : V) → Fits v → (a : T) (x : List ℕ) (r : RunFault) → filter.Gives v a x → filter.Refuses v r
    → r ≡ run.NoMemory)
    (input : List ℕ) (fits : (version : Version) (v : V) → Spells (filter.grammar version) input v → Fits v) where
  -- it gives only one result
  given_once : (a b : T) (x y : List ℕ) → GivesFor filter input a x → GivesFor filter input b y → (a ≡ b) × (x ≡ y)
  given_once a b x y (v, p, spells, gives) (w, q, spells_too, gives_too) =
      let same : p ≡ q = one_value filter.grammar reading input v w p q spells spells_too in
      given q (fits w q spells_too) a b x y (subst (λ (u : V). filter.Gives u a x) same gives) gives_too

  -- it refuses for only one fault
  refused_once : (r s : RunFault) → RefusesFor filter input r → RefusesFor filter input s → r ≢ run.NoMemory
      → s ≢ run.NoMemory → r ≡ s
  refused_once r s (v, p, spells, refuses) (w, q, spells_too, refuses_too) known known_too =
      let same : p ≡ q = one_value filter.grammar reading input v w p q spells spells_too in
      refused q (fits w q spells_too) r s (subst (λ (u : V). filter.Refuses u r) same refuses) refuses_too known
      known_too

  -- it doesn't refuse an input for which it gives a result
  pub given_or_refused : (a : T) (x : List ℕ) (r : RunFault) → GivesFor filter input a x → RefusesFor filter input r
      → r ≡ run.NoMemory
  given_or_refused a x r (v, p, spells, gives) (w, q, spells_too, refuses) =
      let same : p ≡ q = one_value filter.grammar reading input v w p q spells spells_too in
      not_both q (fits w q spells_too) a x r (subst (λ (u : V). filter.Gives u a x) same gives) refuses

  -- so it has only one answer
  pub one_answer : (one other : Result (T × List ℕ) MainFault) → Answers filter input one → Answers filter input other
      → HasEnoughMemory one → HasEnoughMemory other → one ≡ other
  one_answer (Ok (a, x)) (Ok (b, y)) h k known known_too =
      let (answer, output) = given_once a b x y h k in
      let rest : Result (T × List ℕ) MainFault = Ok (b, y) in
      rw (answer, output) refl
  one_answer (Ok (a, x)) (Err (Text f)) (v, p, spells, gives) k known known_too =
      absurd (no_fault filter.grammar reading input v p f spells k known_too)
  one_answer (Ok (a, x)) (Err (Refused r)) h k known known_too = absurd (known_too (given_or_refused a x r h k))
  one_answer (Err (Text f)) (Ok (a, x)) h (v, p, spells, gives) known known_too =
      absurd (no_fault filter.grammar reading input v p f spells h known)
  one_answer (Err (Refused r)) (Ok (a, x)) h k known known_too = absurd (known (given_or_refused a x r k h))
  one_answer (Err (Text f)) (Err (Text e)) h k known known_too =
      ap (λ (t : TextFault). Err (Text t)) (one_fault filter.grammar reading input f e h k known known_too)
  one_answer (Err (Text f)) (Err (Refused r)) h (v, p, spells, refuses) known known_too =
      absurd (no_fault filter.grammar reading input v p f spells h known)
  one_answer (Err (Refused r)) (Err (Text f)) (v, p, spells, refuses) k known known_too =
      absurd (no_fault filter.grammar reading input v p f spells k known_too)
  one_answer (Err (Refused r)) (Err (Refused s)) h k known known_too =
      ap (λ (t : RunFault). Err (Refused t)) (refused_once r s h k known known_too)
  one_answer (Err TooLong) other h k known known_too = absurd h
  one_answer (Err ReadFailed) other h k known known_too = absurd h
  one_answer (Err WriteFailed) other h k known known_too = absurd h
  one_answer one (Err TooLong) h k known known_too = absurd k
  one_answer one (Err ReadFailed) h k known known_too = absurd k
  one_answer one (Err WriteFailed) h k known known_too = absurd k

-- ---- refusals

-- other drivers are refused for only one fault
refused_alone : (drivers : List DriverSpec) (r s : RunFault) → RefusesAlone drivers r
    → RefusesAlone drivers s → r ≢ run.NoMemory → s ≢ run.NoMemory → r ≡ s
refused_alone drivers (run.ConfigFault f) (run.ConfigFault g) h k known known_too =
    ap run.ConfigFault (one_refusal drivers f g h.0 k.0)
refused_alone drivers run.NoMemory s h k known known_too = absurd (known refl)
refused_alone drivers (run.ConfigFault f) run.NoMemory h k known known_too = absurd (known_too refl)
refused_alone drivers (run.ConfigFault f) s h k known known_too = absurd k
refused_alone drivers r s h k known known_too = absurd h

-- valid drivers of a transcript with enough entries are refused only for lack of memory
only_memory_of_part : (at : Option ℕ) (t : Transcript) → IsDriverList t.drivers → (IsPastEnd at t → ⊥) → (r : RunFault)
    → RefusesPart at t r → r ≡ run.NoMemory
only_memory_of_part at t valid enough (run.FewEntries count) h = absurd (enough h.1)
only_memory_of_part at t valid enough r h = only_memory_refuses one_refusal t.drivers valid r h.1

-- a replay refuses for only one fault
part_refused : (at : Option ℕ) (t : Transcript) (r s : RunFault) → RefusesPart at t r → RefusesPart at t s
    → r ≢ run.NoMemory → s ≢ run.NoMemory → r ≡ s
part_refused at t (run.FewEntries m) (run.FewEntries n) h k known known_too =
    ap run.FewEntries (h.0 ∙ sym k.0)
part_refused at t (run.FewEntries m) s h k known known_too = absurd (k.0 h.1)
part_refused at t r (run.FewEntries n) h k known known_too = absurd (h.0 k.1)
part_refused at t r s h k known known_too = refused_alone t.drivers r s h.1 k.1 known known_too

-- ---- the filters

-- a check
pub checked : HasOneReading transcript_grammar → HasOneVerdict
    → (input : List ℕ) (one other : Result (Verdict × List ℕ) MainFault)
    → Answers checking input one → Answers checking input other
    → HasEnoughMemory one → HasEnoughMemory other → one ≡ other
checked reading judged input = one_answer checking reading (λ t. Unit {0})
    (λ t fits v w x y h k. let same = judged t.drivers t.entries t.view v w h.judged k.judged in
    (same, h.written ∙ ap (verdict_line (length t.entries)) same ∙ sym k.written))
    (λ t fits r s. refused_alone t.drivers r s)
    (λ t fits v x r h refuses. only_memory_refuses one_refusal t.drivers h.valid_drivers r refuses)
    input (λ version t spells. tt)

-- a check with an explanation
pub explained : HasOneReading transcript_grammar → HasOneVerdict
    → ((t : Transcript) (one other : List ℕ) → IsExplanation t one → IsExplanation t other → one ≡ other)
    → (input : List ℕ) (one other : Result (Verdict × List ℕ) MainFault)
    → Answers explaining input one → Answers explaining input other
    → HasEnoughMemory one → HasEnoughMemory other → one ≡ other
explained reading judged same_output input = one_answer explaining reading (λ t. Unit {0})
    (λ t fits v w x y h k.
    let same = judged t.drivers t.entries t.view v w h.judged.judged k.judged.judged in
    let told = same_output t h.explanation k.explanation h.explained k.explained in (
      same,
      h.written ∙ ap (λ (verdict : Verdict). verdict_line (length t.entries) verdict ++ h.explanation) same
          ∙ ap (λ (bytes : List ℕ). verdict_line (length t.entries) w ++ bytes) told ∙ sym k.written,
    ))
    (λ t fits r s. refused_alone t.drivers r s)
    (λ t fits v x r h refuses. only_memory_refuses one_refusal t.drivers h.judged.valid_drivers r refuses)
    input (λ version t spells. tt)

-- a replay
pub replayed : HasOneReading transcript_grammar → HasOneReplay
    → (at : Option ℕ) (input : List ℕ) (one other : Result (Unit {0} × List ℕ) MainFault)
    → Answers (making (Replay at)) input one → Answers (making (Replay at)) input other
    → HasEnoughMemory one → HasEnoughMemory other → one ≡ other
replayed reading replay at input = one_answer (making (Replay at)) reading (λ t. Unit {0})
    (λ t fits a b x y h k. (
      refl,
      h.1.written.text
          ∙ ap transcript_text (replay (asked_part at t) h.1.replay k.1.replay h.1.replays k.1.replays)
          ∙ sym k.1.written.text,
    ))
    (λ t fits r s. part_refused at t r s)
    (λ t fits a x r h refuses. only_memory_of_part at t
    (subst (λ (ds : List DriverSpec). IsDriverList ds) (part_drivers at t) h.1.replays.valid_drivers) h.0 r refuses)
    input (λ version t spells. tt)

-- a trace
pub traced : HasOneReading transcript_grammar
    → ((each : Bool) (t : Transcript) (one other : List ℕ) → IsTraceText each t one → IsTraceText each t other
    → one ≡ other)
    → (each : Bool) (input : List ℕ) (one other : Result (Unit {0} × List ℕ) MainFault)
    → Answers (making (Trace each)) input one → Answers (making (Trace each)) input other
    → HasEnoughMemory one → HasEnoughMemory other → one ≡ other
traced reading determined each input = one_answer (making (Trace each)) reading (λ t. Unit {0})
    (λ t fits a b x y h k. (refl, determined each t x y h k))
    (λ t fits r s. refused_alone t.drivers r s)
    (λ t fits a x r h refuses. only_memory_refuses one_refusal t.drivers h.replays.valid_drivers r refuses)
    input (λ version t spells. tt)

-- ---- what a run writes

-- reports with the same calls have the same output
same_output : (workers : ℕ) (programs : ProgramLists) (one other : List ℕ) (a : IsTranscriptFor workers programs one)
    (b : IsTranscriptFor workers programs other)
    → map call_of a.report.entries ≡ map call_of b.report.entries → one ≡ other
same_output workers programs one other a b calls =
    let alike = one_report programs a.report b.report a.promised b.promised calls in
    let same = alike ∙ ap (λ (v : Version). record b.report { version = v }) (a.version ∙ sym b.version) in
    a.written.text ∙ ap transcript_text same ∙ sym b.written.text

-- one worker always writes the same for the same programs
pub in_turn_once : (programs : ProgramLists) (one other : List ℕ) → IsTranscriptFor 1 programs one
    → IsTranscriptFor 1 programs other → one ≡ other
in_turn_once programs one other a b =
    same_output 1 programs one other a b (a.in_turn (omega arith) ∙ sym (b.in_turn (omega arith)))

-- any number of workers always write the same for one process
one_process_once : (workers : ℕ) (programs : ProgramLists) → length programs.programs ≤ 1
    → (one other : List ℕ)
    → IsWrittenFor false workers programs one → IsWrittenFor false workers programs other → one ≡ other
one_process_once workers programs few one other a b =
    same_output workers programs one other a b (in_turn programs.programs a.report.entries few a.promised.holds
    ∙ sym (in_turn programs.programs b.report.entries few b.promised.holds))

-- the drivers of a run that has an output are valid
run_drivers_valid : (fronts : Bool) (workers : ℕ) (programs : ProgramLists) (output : List ℕ)
    → IsWrittenFor fronts workers programs output → IsDriverList programs.drivers
run_drivers_valid true workers programs output h = h.promised.valid_drivers
run_drivers_valid false workers programs output h = h.promised.valid_drivers

-- ---- a run

-- a run on one worker
pub run_by_one : HasOneReading programs_grammar → (input : List ℕ) (one other : Result (Unit {0} × List ℕ) MainFault)
    → Answers (running false 1) input one → Answers (running false 1) input other
    → HasEnoughMemory one → HasEnoughMemory other → one ≡ other
run_by_one reading input = one_answer (running false 1) reading (λ p. Unit {0})
    (λ p fits a b x y h k. (refl, in_turn_once p x y h k))
    (λ p fits r s h k. refused_alone p.drivers r s (h.1 (inl (omega arith))) (k.1 (inl (omega arith))))
    (λ p fits a x r h refuses. only_memory_refuses one_refusal p.drivers h.promised.valid_drivers r
    (refuses.1 (inl (omega arith))))
    input (λ version p spells. tt)

-- a run of one process
pub run_of_one : HasOneReading programs_grammar → (workers : ℕ) (input : List ℕ)
    (one other : Result (Unit {0} × List ℕ) MainFault)
    → ((version : Version) (p : ProgramLists) → Spells (programs_grammar version) input p → length p.programs ≤ 1)
    → Answers (running false workers) input one → Answers (running false workers) input other
    → HasEnoughMemory one → HasEnoughMemory other → one ≡ other
run_of_one reading workers input one other few =
    one_answer (running false workers) reading (λ p. length p.programs ≤ 1)
    (λ p fits a b x y h k. (refl, one_process_once workers p fits x y h k))
    (λ p fits r s h k. refused_alone p.drivers r s (h.1 (inr fits)) (k.1 (inr fits)))
    (λ p fits a x r h refuses.
    only_memory_refuses one_refusal p.drivers (run_drivers_valid false workers p x h) r (refuses.1 (inr fits)))
    input few one other

-- the drivers of a run that has an output are not refused
pub run_or_refused : HasOneReading programs_grammar → (fronts : Bool) (workers : ℕ) (input output : List ℕ)
    (done : Unit {0}) (fault : ConfigFault)
    → GivesFor (running fronts workers) input done output
    → RefusesFor (running fronts workers) input (run.ConfigFault fault) → ⊥
run_or_refused reading fronts workers input output done fault (v, p, spells, gives)
    (w, q, spells_too, refuses) =
    let same : p ≡ q = one_value programs_grammar reading input v w p q spells spells_too in
    let had : IsDriverList q.drivers = subst (λ (u : ProgramLists). IsDriverList u.drivers) same
    (run_drivers_valid fronts workers p output gives) in
    refuses.0.1 (one_refusal q.drivers fault config.NoMemory refuses.0.0 had)

-- ---- the transcript that a run writes

-- a check judges the transcript of a run legal
pub run_is_legal : AreJudgedLegal → (workers : ℕ) (programs : ProgramLists) (output : List ℕ)
    → IsWrittenFor false workers programs output
    → (line : List ℕ) × GivesFor checking output Legal line
run_is_legal legal workers programs output t = (
  verdict_line (length t.report.entries) Legal,
  (
    t.report.version,
    t.report,
    t.written,
    record {
      valid_drivers = rw t.promised.drivers t.promised.valid_drivers;
      judged = legal programs t.report t.promised;
      written = refl;
    },
  ),
)

-- the transcript of a run spells a report of the programs in their version, and nothing else
pub run_spells_one : HasOneReading transcript_grammar
    → (workers : ℕ) (programs : ProgramLists) (output : List ℕ) (version : Version) (t : Transcript)
    → IsWrittenFor false workers programs output → Spells (transcript_grammar version) output t
    → (t.version ≡ programs.version) × IsReportOf programs t
run_spells_one reading workers programs output version t told spells_too =
    let same : told.report ≡ t = one_value transcript_grammar reading output told.report.version version told.report t
    told.written spells_too in
    subst (λ (u : Transcript). (u.version ≡ programs.version) × IsReportOf programs u) same
    (told.version, told.promised)
