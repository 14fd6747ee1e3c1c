-- The meaning of each exit status.
use Rattle.std.proofs.Common.{◌≡◌, ◌≢◌, ◌⊎◌, ◌↔◌, ℕ, Bool, true, List, [], ◌++◌, Option, Some, None, Result, Ok}
use Rattle.std.proofs.Common.{◌+◌, Err, refl, sym, ap, subst, ◌∙◌, arith, inl, inr}
use Rattle.std.specs.Prelude.{IfSome}
use Rattle.std.specs.Io.KnownBytes.{Appends, Consumes, Keeps}
use Rattle.std.specs.Process.{exit_status}
use Rattle.std.specs.declared.process.ExitCode.{ExitCode}
use Rattle.smx_config.specs.declared.verdict.Verdict.{Verdict}
use Rattle.smx_config.specs.declared.verdict.Verdict.TheVariants.{Legal, Illegal, ConfigDiffers}
use Rattle.smx_text.specs.declared.text_fault.Cause.{Cause}
use Rattle.smx_text.specs.declared.text_fault.Cause.TheVariants as cause
use Rattle.smx_filters.specs.ExplainText.{judging}
use Rattle.smx_filters.specs.Filters.{Filter, FiltersText, GivesFor}
use Rattle.smx_filters.specs.Products.{making}
use Rattle.smx_filters.specs.RunText.{running}
use Rattle.smx_run.specs.Statuses.{status_of, status_of_cause, status_of_done, status_of_outcome, status_of_verdict}
use Rattle.smx_run.specs.declared.main_fault.Done.{Done}
use Rattle.smx_run.specs.declared.main_fault.Done.TheVariants.{Finished, Judged}
use Rattle.smx_run.specs.declared.main_fault.MainFault.{MainFault}
use Rattle.smx_run.specs.declared.main_fault.MainFault.TheVariants.{Refused, Text, TooLong, ReadFailed, WriteFailed}
use Rattle.smx_live.specs.LiveText.{AreFine, IsOutcome, IsOver, LivesText}
use Rattle.muxsim.specs.Ends.{Devices, EndsJob, Writes, finished, outcome_of}
use Rattle.smx_command_line.specs.declared.jobs.Job.{Job}
use Rattle.smx_command_line.specs.declared.jobs.Job.TheVariants.{Run, Check, Make, Live}

-- ---- numbers

-- a fault of a text has the status 1 or 3
cause_is : (c : Cause) → (status_of_cause c ≡ 1) ⊎ (status_of_cause c ≡ 3)
cause_is cause.Header = inr refl
cause_is cause.Form = inr refl
cause_is cause.Many = inr refl
cause_is cause.Cut = inr refl
cause_is cause.Trailing = inr refl
cause_is cause.NoMemory = inl refl

-- the verdict of a legal history has the status 0, and any other the status 4
verdict_is : (v : Verdict) → ((v ≡ Legal) × (status_of_verdict v ≡ 0)) ⊎ ((v ≢ Legal) × (status_of_verdict v ≡ 4))
verdict_is Legal = inl (refl, refl)
verdict_is (Illegal entry) = inr (λ is. cc, refl)
verdict_is ConfigDiffers = inr (λ is. cc, refl)

-- what was done has the status 0 or 4
done_is : (done : Done) → (status_of_done done ≡ 0) ⊎ (status_of_done done ≡ 4)
done_is Finished = inl refl
done_is (Judged Legal) = inl refl
done_is (Judged (Illegal entry)) = inr refl
done_is (Judged ConfigDiffers) = inr refl

-- a fault has the status 5 if the reader or the writer failed, and else 1 or 3
fault_is : (e : MainFault) → ((e ≢ ReadFailed) × (e ≢ WriteFailed) × ((status_of e ≡ 1) ⊎ (status_of e ≡ 3)))
    ⊎ (((e ≡ ReadFailed) ⊎ (e ≡ WriteFailed)) × (status_of e ≡ 5))
fault_is (Refused f) = inl (λ is. cc, λ is. cc, inl refl)
fault_is (Text f) = inl (λ is. cc, λ is. cc, cause_is f.cause)
fault_is TooLong = inl (λ is. cc, λ is. cc, inr refl)
fault_is ReadFailed = inr (inl refl, refl)
fault_is WriteFailed = inr (inr refl, refl)

-- the status of a fault is odd
odd : (e : MainFault) → (k : ℕ) × (status_of e ≡ k + k + 1)
odd e = elim (fault_is e) [
  | inl (read, write, inl one) ↦ (0, one)
  | inl (read, write, inr three) ↦ (1, three)
  | inr (failed, five) ↦ (2, five)
]

-- a fault has no even status
not_even : (e : MainFault) (n k : ℕ) → n ≡ status_of e → n ≡ k + k → ⊥
not_even e n k is even = let (j, other) = odd e in omega (arith, is, even, other)

-- ---- what a filter says

module _ {V K T : Type 0} (f : Filter V K T) (d : Devices) where
  -- what a filter has read and written if it returns this result
  abbrev Filtered : Result T MainFault → Type 0
  Filtered answer =
      FiltersText f d.had d.left d.ended d.read_failures d.before d.after d.flushed d.write_failures answer

  -- a filter that succeeds has written what it gives for the input
  gave : (a : T) → Filtered (Ok a) → (input output : List ℕ) → Writes d input output
      → (d.flushed ≡ true) × GivesFor f input a output
  gave a h input output w =
      let (whole, flushed, bytes, gives, appended) = h.done in
      let read : input ≡ h.read = subst (λ (o : Option (List ℕ)). IfSome o (λ all. all ≡ h.read)) w.had whole.1 in
      let wrote : Appends (Some []) (Some output) bytes = subst (λ (o : Option (List ℕ)). Appends (Some []) o bytes)
      w.after (subst (λ (o : Option (List ℕ)). Appends o d.after bytes) w.before appended) in
      let out : output ≡ bytes = wrote in
      (flushed, rw (read, out) gives)

  -- if a filter succeeds, neither the reader nor the writer has failed
  fine : (a : T) → Filtered (Ok a) → (d.read_failures ≡ 1) ⊎ (d.write_failures ≡ 1) → ⊥
  fine a h (inl read) = let told : Ok a ≡ Err ReadFailed = h.read_failed.1 read in absurd cc
  fine a h (inr write) = let told : Ok a ≡ Err WriteFailed = h.write_failed.1 write in absurd cc

  -- a fault has the status 5 exactly if the reader or the writer failed
  broken : (e : MainFault) → Filtered (Err e) → (n : ℕ) → n ≡ status_of e
      → (n ≡ 5) ↔ ((d.read_failures ≡ 1) ⊎ (d.write_failures ≡ 1))
  broken e h n is = (there, back) where
    there : n ≡ 5 → (d.read_failures ≡ 1) ⊎ (d.write_failures ≡ 1)
    there five = elim (fault_is e) [
      | inl (read, write, inl one) ↦ absurd (omega (arith, is, five, one))
      | inl (read, write, inr three) ↦ absurd (omega (arith, is, five, three))
      | inr (inl read, same) ↦ inl (h.read_failed.0 (ap Err read))
      | inr (inr write, same) ↦ inr (h.write_failed.0 (ap Err write))
    ]

    back : (d.read_failures ≡ 1) ⊎ (d.write_failures ≡ 1) → n ≡ 5
    back (inl read) = let told : Err e ≡ Err ReadFailed = h.read_failed.1 read in let which : e ≡ ReadFailed = cc in
        is ∙ ap status_of which
    back (inr write) = let told : Err e ≡ Err WriteFailed = h.write_failed.1 write in
        let which : e ≡ WriteFailed = cc in is ∙ ap status_of which

  -- if a fault has the status 1 or 3, nothing was written
  nothing : (e : MainFault) → Filtered (Err e) → (n : ℕ) → n ≡ status_of e → (n ≡ 1) ⊎ (n ≡ 3) → Keeps d.before d.after
  nothing e h n is low = h.unwritten (not_write low) where
    not_write : (n ≡ 1) ⊎ (n ≡ 3) → e ≢ WriteFailed
    not_write (inl one) which = let five : n ≡ 5 = is ∙ ap status_of which in absurd (omega (arith, one, five))
    not_write (inr three) which = let five : n ≡ 5 = is ∙ ap status_of which in absurd (omega (arith, three, five))

-- ---- what was done

module _ (d : Devices) (code : ExitCode) (input output : List ℕ) (w : Writes d input output) where
  -- a filter that judges nothing, with the status 0, wrote what was asked for
  pub done_for : {V K : Type 0} (f : Filter V K (Unit {0})) (answer : Result (Unit {0}) MainFault) → Filtered f d answer
      → exit_status code ≡ status_of_outcome (outcome_of finished answer) → exit_status code ≡ 0
      → (d.flushed ≡ true) × GivesFor f input tt output
  done_for f (Ok done) h is zero = gave f d tt h input output w
  done_for f (Err e) h is zero = absurd (not_even e _ 0 is zero)

  -- a check with the status 0 judged the transcript legal
  pub judged : (explain : Bool) (answer : Result Verdict MainFault) → Filtered (judging explain) d answer
      → exit_status code ≡ status_of_outcome (outcome_of Judged answer) → exit_status code ≡ 0
      → (d.flushed ≡ true) × GivesFor (judging explain) input Legal output
  judged explain (Ok v) h is zero = elim (verdict_is v) [
    | inl (legal, same) ↦ subst (λ (x : Verdict). (d.flushed ≡ true) × GivesFor (judging explain) input x output) legal
        (gave (judging explain) d v h input output w)
    | inr (other, same) ↦ absurd (omega (arith, is, zero, same))
  ]
  judged explain (Err e) h is zero = absurd (not_even e _ 0 is zero)

  -- a check with the status 4 judged the transcript other than legal
  pub otherwise : (explain : Bool) (answer : Result Verdict MainFault) → Filtered (judging explain) d answer
      → exit_status code ≡ status_of_outcome (outcome_of Judged answer) → exit_status code ≡ 4
      → (d.flushed ≡ true) × (v : Verdict) × (v ≢ Legal) × GivesFor (judging explain) input v output
  otherwise explain (Ok v) h is four = elim (verdict_is v) [
    | inl (legal, same) ↦ absurd (omega (arith, is, four, same))
    | inr (other, same) ↦ let (flushed, gives) = gave (judging explain) d v h input output w in
        (flushed, v, other, gives)
  ]
  otherwise explain (Err e) h is four = absurd (not_even e _ 2 is four)

-- what was read of these bytes is their beginning
beginning : (left : Option (List ℕ)) (input read : List ℕ) → Consumes (Some input) left read
    → (rest : List ℕ) × (input ≡ read ++ rest)
beginning None input read consumed = absurd consumed
beginning (Some rest) input read consumed = (rest, consumed)

-- a live session that succeeds has ended
lived : (explain : Bool) (d : Devices) (input output : List ℕ) → Writes d input output
    → LivesText explain d.had d.left d.ended d.read_failures d.before d.after d.flushed d.write_failures (Ok tt)
    → (d.flushed ≡ true) × (read rest : List ℕ) × (input ≡ read ++ rest) × IsOver explain read d.ended output
lived explain d input output w h =
    let (fine, flushed, over) = h.outcome in
    let consumed : Consumes (Some input) d.left h.read =
    subst (λ (o : Option (List ℕ)). Consumes o d.left h.read) w.had h.consumed in
    let wrote : Appends (Some []) (Some output) h.output = subst (λ (o : Option (List ℕ)). Appends (Some []) o h.output)
    w.after (subst (λ (o : Option (List ℕ)). Appends o d.after h.output) w.before h.appended) in
    let out : output ≡ h.output = wrote in
    let front : (rest : List ℕ) × (input ≡ h.read ++ rest) = beginning d.left input h.read consumed in
    (flushed, h.read, front.0, front.1, subst (λ (o : List ℕ). IsOver explain h.read d.ended o) (sym out) over)

-- a live session with the status 0 has ended, and wrote its answers
pub live_done : (explain : Bool) (d : Devices) (code : ExitCode) (input output : List ℕ)
    → EndsJob (Live explain) d code → Writes d input output → exit_status code ≡ 0
    → (d.flushed ≡ true) × (read rest : List ℕ) × (input ≡ read ++ rest) × IsOver explain read d.ended output
live_done explain d code input output h w zero = by_answer h.answer h.lived h.status where
  by_answer : (answer : Result (Unit {0}) MainFault)
      → LivesText explain d.had d.left d.ended d.read_failures d.before d.after d.flushed d.write_failures answer
      → exit_status code ≡ status_of_outcome (outcome_of finished answer)
      → (d.flushed ≡ true) × (read rest : List ℕ) × (input ≡ read ++ rest) × IsOver explain read d.ended output
  by_answer (Ok done) l is = lived explain d input output w l
  by_answer (Err e) l is = absurd (not_even e _ 0 is zero)

-- ---- what failed

-- what a status says of any result, if 1 and 3 say `Low`
record Tells (Low : Type 0) (d : Devices) (n : ℕ) : Type 0 where
  failed : (n ≡ 5) ↔ ((d.read_failures ≡ 1) ⊎ (d.write_failures ≡ 1))
  unwritten : (n ≡ 1) ⊎ (n ≡ 3) → Low
  no_words : n ≡ 2 → ⊥

-- what a status that is a multiple of 4 says of a filter that succeeded
of_answer : {V K T : Type 0} (f : Filter V K T) (d : Devices) (a : T) → Filtered f d (Ok a) → (n k : ℕ)
    → n ≡ k + k + k + k → Tells (Keeps d.before d.after) d n
of_answer f d a h n k fours = record {
  failed = (λ is. absurd (omega (arith, fours, is)), λ broke. absurd (fine f d a h broke));
  unwritten = λ low. elim low [
    | inl one ↦ absurd (omega (arith, fours, one))
    | inr three ↦ absurd (omega (arith, fours, three))
  ];
  no_words = λ is. absurd (omega (arith, fours, is));
}

-- what a status says of a filter that ended with a fault
of_fault : {V K T : Type 0} (f : Filter V K T) (d : Devices) (e : MainFault) → Filtered f d (Err e) → (n : ℕ)
    → n ≡ status_of e → Tells (Keeps d.before d.after) d n
of_fault f d e h n is = record {
  failed = broken f d e h n is;
  unwritten = nothing f d e h n is;
  no_words = not_even e n 1 is;
}

-- what a status says of a filter
of_filter : {V K T : Type 0} (f : Filter V K T) (done : T → Done) (d : Devices) (n : ℕ) (answer : Result T MainFault)
    → Filtered f d answer → n ≡ status_of_outcome (outcome_of done answer) → Tells (Keeps d.before d.after) d n
of_filter f done d n (Ok a) h is = elim (done_is (done a)) [
  | inl zero ↦ of_answer f d a h n 0 (is ∙ zero)
  | inr four ↦ of_answer f d a h n 1 (is ∙ four)
]
of_filter f done d n (Err e) h is = of_fault f d e h n is

-- if neither of the two has failed, there is no failure
none_failed : (a b : ℕ) → AreFine a b → (a ≡ 1) ⊎ (b ≡ 1) → ⊥
none_failed a b fine (inl one) = omega (arith, fine.0, one)
none_failed a b fine (inr one) = omega (arith, fine.1, one)

-- a fault of a live session has the status 5 exactly if the reader or the writer failed
live_broken : (explain : Bool) (d : Devices) (read output : List ℕ) (e : MainFault)
    → IsOutcome explain read output d.ended d.flushed d.read_failures d.write_failures (Err e) → (n : ℕ)
    → n ≡ status_of e
    → (n ≡ 5) ↔ ((d.read_failures ≡ 1) ⊎ (d.write_failures ≡ 1))
live_broken explain d read output (Refused f) h n is =
    (λ five. absurd (omega (arith, is, five)), λ broke. absurd (none_failed _ _ h.0 broke))
live_broken explain d read output TooLong h n is =
    (λ five. absurd (omega (arith, is, five)), λ broke. absurd (none_failed _ _ h.0 broke))
live_broken explain d read output ReadFailed h n is = (λ five. inl h.0, λ broke. is)
live_broken explain d read output WriteFailed h n is = (λ five. inr h.1, λ broke. is)
live_broken explain d read output (Text f) h n is =
    (λ five. low (cause_is f.cause) five, λ broke. absurd (none_failed _ _ h.0 broke)) where
      low : (status_of_cause f.cause ≡ 1) ⊎ (status_of_cause f.cause ≡ 3) → n ≡ 5
          → (d.read_failures ≡ 1) ⊎ (d.write_failures ≡ 1)
      low (inl one) five = absurd (omega (arith, is, one, five))
      low (inr three) five = absurd (omega (arith, is, three, five))

-- what a status says of a live session, which may have written something before a fault
of_living : (explain : Bool) (d : Devices) (n : ℕ) (answer : Result (Unit {0}) MainFault)
    → LivesText explain d.had d.left d.ended d.read_failures d.before d.after d.flushed d.write_failures answer
    → n ≡ status_of_outcome (outcome_of finished answer) → Tells (Unit {0}) d n
of_living explain d n (Ok done) h is = record {
  failed = (λ five. absurd (omega (arith, is, five)), λ broke. absurd (none_failed _ _ h.outcome.0 broke));
  unwritten = λ low. tt;
  no_words = λ two. absurd (omega (arith, is, two));
}
of_living explain d n (Err e) h is = record {
  failed = live_broken explain d h.read h.output e h.outcome n is;
  unwritten = λ low. tt;
  no_words = not_even e n 1 is;
}

-- what the statuses 1 and 3 say of a job: that nothing was written, except by a live session
abbrev Low : Job → Devices → Type 0
Low (Run workers fronts explain) d = Keeps d.before d.after
Low (Check explain) d = Keeps d.before d.after
Low (Make product explain) d = Keeps d.before d.after
Low (Live explain) d = Unit {0}

-- what a status says of any job
tells : (job : Job) (d : Devices) (code : ExitCode) → EndsJob job d code → Tells (Low job d) d (exit_status code)
tells (Run workers fronts explain) d code h = of_filter (running fronts workers) finished d _ h.answer h.filtered h.status
tells (Check explain) d code h = of_filter (judging explain) Judged d _ h.answer h.filtered h.status
tells (Make product explain) d code h = of_filter (making product) finished d _ h.answer h.filtered h.status
tells (Live explain) d code h = of_living explain d _ h.answer h.lived h.status

-- the status is 5 exactly if the reader or the writer failed
pub failed : (job : Job) (d : Devices) (code : ExitCode) → EndsJob job d code
    → (exit_status code ≡ 5) ↔ ((d.read_failures ≡ 1) ⊎ (d.write_failures ≡ 1))
failed job d code h = (tells job d code h).failed

-- if the status is 1 or 3, nothing was written, except by a live session
pub unwritten : (job : Job) (d : Devices) (code : ExitCode) → ((explain : Bool) → job ≢ Live explain)
    → EndsJob job d code
    → (exit_status code ≡ 1) ⊎ (exit_status code ≡ 3) → Keeps d.before d.after
unwritten (Run workers fronts explain) d code other h = (tells (Run workers fronts explain) d code h).unwritten
unwritten (Check explain) d code other h = (tells (Check explain) d code h).unwritten
unwritten (Make product explain) d code other h = (tells (Make product explain) d code h).unwritten
unwritten (Live explain) d code other h = absurd (other explain refl)

-- no job that started has the status 2
pub no_words : (job : Job) (d : Devices) (code : ExitCode) → EndsJob job d code → exit_status code ≡ 2 → ⊥
no_words job d code h = (tells job d code h).no_words

-- a result that is no verdict doesn't have the status 4
not_4 : (n : ℕ) (answer : Result (Unit {0}) MainFault) → n ≡ status_of_outcome (outcome_of finished answer) → n ≡ 4 → ⊥
not_4 n (Ok done) is four = absurd (omega (arith, is, four))
not_4 n (Err e) is four = not_even e n 2 is four

-- no job but a check has the status 4
pub no_verdict : (job : Job) (d : Devices) (code : ExitCode) → ((explain : Bool) → job ≢ Check explain)
    → EndsJob job d code → exit_status code ≡ 4 → ⊥
no_verdict (Run workers fronts explain) d code other h = not_4 _ h.answer h.status
no_verdict (Check explain) d code other h = absurd (other explain refl)
no_verdict (Make product explain) d code other h = not_4 _ h.answer h.status
no_verdict (Live explain) d code other h = not_4 _ h.answer h.status
