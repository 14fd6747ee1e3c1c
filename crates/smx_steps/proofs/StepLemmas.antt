-- A page that is being written, and what it contains.
use Rattle.std.proofs.Common.{◌≡◌, ℕ, suc, ◌+◌, ◌<◌, ◌≤◌, true, List, [], ◌∷◌, ◌++◌, map, length, take, get_or}
use Rattle.std.proofs.Common.{refl, sym, ap, subst, ◌∙◌, append_assoc, append-nil, arith, inr}
use Rattle.std.specs.Prelude.{IfErr, IsErrAnd, Result, Ok, Err, codes}
use Rattle.std.specs.Fmt.{decimal}
use Rattle.std.proofs.lemmas.List.{length-append, length-take-le, take_more}
use Rattle.smx_types.specs.declared.command.Entry.{Entry}
use Rattle.smx_types.specs.declared.driver.DriverSpec.{DriverSpec}
use Rattle.smx_types.specs.declared.transcript.Transcript.{Transcript}
use Rattle.smx_types.specs.declared.version.Version.{Version}
use Rattle.smx_types.specs.declared.view.ConfigView.{ConfigView}
use Rattle.smx_model.specs.Commands.{step}
use Rattle.smx_model.specs.Configuration.{Configuration, empty}
use Rattle.smx_model.specs.DriverList.{IsDriverList}
use Rattle.smx_model.specs.Histories.{after, after_from}
use Rattle.smx_model.specs.Views.{view}
use Rattle.smx_model.proofs.HistoryLemmas.{after_push}
use Rattle.smx_config.specs.DriverFaults.{RefusesDrivers}
use Rattle.smx_config.specs.Machine.{Machine}
use Rattle.smx_config.specs.declared.config_fault.ConfigFault.{ConfigFault}
use Rattle.smx_words.specs.Spelling.{driver_words}
use Rattle.smx_words.specs.Words.{LINE_FEED, text_of}
use Rattle.smx_text.specs.Grammar.{header}
use Rattle.smx_text.specs.GrowingTranscripts.{BeginsTranscript, opening_text, transcript_with}
use Rattle.smx_text.specs.TranscriptLines.{TranscriptLine}
use Rattle.smx_text.specs.TranscriptLines as line
use Rattle.smx_text.specs.TranscriptText.{line_words, transcript_grammar}
use Rattle.smx_trace.specs.Answers.{answered, answers, answers_from}
use Rattle.smx_trace.specs.Prefixes.{first_entries}
use Rattle.smx_trace.specs.Tracing.{TracesEntry}
use Rattle.smx_trace.specs.Traces.{lines_of_entry, trace_lines_text}
use Rattle.smx_trace.proofs.ReplayLemmas.{led_from, more_from, replayed}
use Rattle.smx_draw.specs.SvgText.{IsSvgOf}
use Rattle.smx_steps.specs.Pages.{HasStepOf, IsPageOf, RefusesPage}
use Rattle.smx_steps.specs.Stepping.{HasStepped, IsStopped, PerformsStep}
use Rattle.smx_steps.specs.Steps.{AddsEntry, AddsStep, AddsSteps, step_text}
use Rattle.smx_steps.specs.declared.frame.TheConstants.{FOOT, HEAD}
use Rattle.smx_steps.specs.declared.pages.PageFault.{PageFault}
use Rattle.smx_steps.specs.declared.pages.PageFault.TheVariants.{Refused, TooLong}
use Rattle.smx_steps.specs.declared.pages.TheConstants.{MAX_STEPS}

-- ---- steps

-- one more step is appended
adds_more : (drivers : List DriverSpec) (c : Configuration) (n : ℕ) (es : List Entry) (e : Entry) (k : ℕ)
    (a b z : List ℕ) → k ≡ n + length es → AddsSteps drivers c n es a b
    → AddsEntry drivers (after_from drivers c es) (suc k) e b z → AddsSteps drivers c n (es ++ e ∷ []) a z
adds_more drivers c n [] e k a b z at h one =
    let first : k ≡ n = omega (arith, at) in (
      z,
      subst (λ (t : List ℕ). AddsEntry drivers c (suc n) e t z) h
          (subst (λ (j : ℕ). AddsEntry drivers c (suc j) e b z) first one),
      refl,
    )
adds_more drivers c n (d ∷ es) e k a b z at (middle, first, rest) one = (
  middle,
  first,
  adds_more drivers (step drivers c d.process d.command).0 (suc n) es e k middle b z (omega (arith, at)) rest one,
)

-- steps come after the earlier text
behind : (drivers : List DriverSpec) (c : Configuration) (n : ℕ) (es : List Entry) (a z : List ℕ)
    → AddsSteps drivers c n es a z → (more : List ℕ) × (z ≡ a ++ more)
behind drivers c n [] a z h = ([], h ∙ sym (append-nil a))
behind drivers c n (e ∷ es) a z (middle, one, rest) =
    let Step : List ℕ = step_text (decimal (suc n)) (trace_lines_text drivers (lines_of_entry true drivers c e))
    one.picture in
    let later = behind drivers (step drivers c e.process e.command).0 (suc n) es middle z rest in (
      Step ++ later.0,
      later.1 ∙ ap (λ (t : List ℕ). t ++ later.0) one.written ∙ append_assoc a Step later.0,
    )

-- each entry has its step
step_of : (drivers : List DriverSpec) (c : Configuration) (n : ℕ) (before : List Entry) (e : Entry) (more : List Entry)
    (k : ℕ) (a z : List ℕ) → k ≡ n + length before → AddsSteps drivers c n (before ++ e ∷ more) a z
    → (front back rest : List ℕ) × AddsEntry drivers (after_from drivers c before) (suc k) e front back
    × (z ≡ back ++ rest)
step_of drivers c n [] e more k a z at (middle, one, rest) =
    let first : n ≡ k = omega (arith, at) in
    let later = behind drivers (step drivers c e.process e.command).0 (suc n) more middle z rest in
    (a, middle, later.0, subst (λ (j : ℕ). AddsEntry drivers c (suc j) e a middle) first one, later.1)
step_of drivers c n (d ∷ before) e more k a z at (middle, one, rest) =
    step_of drivers (step drivers c d.process d.command).0 (suc n) before e more k middle z (omega (arith, at)) rest

-- a page has the step of each entry
pub step_in_page : (t : Transcript) (output : List ℕ) (page : IsPageOf t output) (before : List Entry) (e : Entry)
    (more : List Entry) → page.replay.entries ≡ before ++ e ∷ more
    → HasStepOf t.drivers before e output
step_in_page t output page before e more is =
    let (front, back, rest, one, then) = step_of t.drivers empty 0 before e more (length before) page.begun page.stepped
    (omega arith)
    (subst (λ (es : List Entry). AddsSteps t.drivers empty 0 es page.begun page.stepped) is page.steps) in (
      front,
      back,
      rest ++ FOOT.now,
      one,
      page.ends ∙ ap (λ (text : List ℕ). text ++ FOOT.now) then
          ∙ append_assoc back rest FOOT.now,
    )

-- ---- a page that is being written

-- there are as many answers as entries
as_many : (drivers : List DriverSpec) (c : Configuration) (es : List Entry)
    → length (answers_from drivers c es) ≡ length es
as_many drivers c [] = refl
as_many drivers c (e ∷ es) = ap suc (as_many drivers (step drivers c e.process e.command).0 es)

-- no step is written yet
pub stepped_none : (drivers : List DriverSpec) (begun : List ℕ) (m : Machine) → m.drivers ≡ drivers
    → m.configuration ≡ empty → HasStepped drivers begun [] m begun
stepped_none drivers begun m same now = record { same = same; now = now; written = refl }

-- the command of an entry is performed, and its step is written
pub performs : (number : ℕ) (e : Entry) (m n : Machine) (w : ConfigView) (lines picture before after : List ℕ)
    → TracesEntry true e m n [] lines → w ≡ view n.drivers n.configuration → IsSvgOf n.drivers w picture
    → after ≡ before ++ step_text (decimal number) lines picture → PerformsStep number e m n before after
performs number e m n w lines picture before after traced is drawn wrote = record {
  drivers = traced.drivers;
  performed = traced.performed;
  added = record {
    picture = picture;
    drawn = rw (is, traced.drivers, traced.performed) at drawn;
    written = rw traced.written at wrote;
  };
}

-- one more step is written
stepped_more : (drivers : List DriverSpec) (begun : List ℕ) (asked : List Entry) (e : Entry) (k : ℕ) (m n : Machine)
    (text new : List ℕ) → k ≡ length asked → HasStepped drivers begun asked m text → PerformsStep (suc k) e m n text new
    → HasStepped drivers begun (asked ++ e ∷ []) n new
stepped_more drivers begun asked e k m n text new at h performed =
    let c : Configuration = after drivers asked in
    let here : PerformsStep (suc k) e (record { drivers = drivers; configuration = c }) n text new =
    subst (λ (x : Configuration). PerformsStep (suc k) e (record { drivers = drivers; configuration = x }) n text new)
    h.now
    (subst (λ (ds : List DriverSpec). PerformsStep (suc k) e (record { drivers = ds; configuration = m.configuration })
    n text new) h.same performed) in
    let led : after drivers (answers drivers asked) ≡ c = led_from drivers empty asked in
    let many : length (answers drivers asked) ≡ length asked = as_many drivers empty asked in
    record {
      same = here.drivers;
      now = here.performed ∙ sym (after_push drivers asked e);
      written =
          subst (λ (es : List Entry). AddsSteps drivers empty 0 es begun new) (sym (more_from drivers empty asked e))
          (adds_more drivers empty 0 (answers drivers asked) (answered drivers c e) k begun text new
          (omega (arith, at, many)) h.written
          (subst (λ (x : Configuration). AddsEntry drivers x (suc k) (answered drivers c e) text new) (sym led)
          here.added));
    }

-- in a loop over the entries, the next step is written
pub stepped_next : (drivers : List DriverSpec) (begun : List ℕ) (entries : List Entry) (i : ℕ) (e : Entry)
    (m n : Machine) (text new : List ℕ) → i < length entries → e ≡ get_or entries i e
    → HasStepped drivers begun (take i entries) m text → PerformsStep (i + 1) e m n text new
    → HasStepped drivers begun (take (i + 1) entries) n new
stepped_next drivers begun entries i e m n text new lt is h performed =
    let more : take (i + 1) entries ≡ take i entries ++ e ∷ [] =
    take_more entries i e lt ∙ ap (λ (x : Entry). take i entries ++ x ∷ []) (sym is) in
    let named : i + 1 ≡ suc i = omega arith in
    let at : i ≡ length (take i entries) = sym (length-take-le i entries (omega (arith, lt))) in
    subst (λ (es : List Entry). HasStepped drivers begun es n new) (sym more)
    (stepped_more drivers begun (take i entries) e i m n text new at h
    (subst (λ (j : ℕ). PerformsStep j e m n text new) named performed))

-- ---- the whole page

-- the words of the lines of drivers
words_of : (drivers : List DriverSpec) → map line_words (map line.Driver drivers) ≡ map driver_words drivers
words_of [] = refl
words_of (d ∷ ds) = ap (λ (ws : List (List (List ℕ))). driver_words d ∷ ws) (words_of ds)

-- the opening of a transcript
pub opening_is : (version : Version) (drivers : List DriverSpec) (opening : List ℕ)
    → BeginsTranscript version drivers [] opening → opening ≡ opening_text version drivers
opening_is version drivers opening b =
    let Head : List ℕ = header (transcript_grammar version) in
    b.written
    ∙ ap (λ (ls : List TranscriptLine). (Head ++ LINE_FEED ∷ []) ++ text_of (map line_words ls))
    (append-nil (map line.Driver drivers))
    ∙ append_assoc Head (LINE_FEED ∷ []) _
    ∙ ap (λ (ws : List (List (List ℕ))). Head ++ LINE_FEED ∷ text_of ws) (words_of drivers)

-- the beginning of the page of a transcript
abbrev pub Begins : Transcript → List ℕ → Type 0
Begins t begun =
    AddsStep t.drivers (view t.drivers empty) (codes "beginning") (opening_text t.version t.drivers) HEAD.now begun

-- the steps that were written, and the foot, make the page
pub whole_page : (t : Transcript) (begun : List ℕ) (m : Machine) (text output : List ℕ) → IsDriverList t.drivers
    → Begins t begun → HasStepped t.drivers begun t.entries m text → output ≡ text ++ FOOT.now → IsPageOf t output
whole_page t begun m text output can begins h ends = record {
  replay = transcript_with t.version t.drivers (answers t.drivers t.entries)
      (view t.drivers (after t.drivers t.entries));
  replays = replayed t (view t.drivers (after t.drivers t.entries)) can refl;
  begun = begun;
  beginning = begins;
  stepped = text;
  steps = h.written;
  ends = ends;
}

-- why a page was given up is why it is refused
pub stopped_page : (t : Transcript) (begun : List ℕ) (fault : PageFault) → length t.entries ≤ MAX_STEPS
    → IsDriverList t.drivers → Begins t begun → IsStopped t.drivers begun t.entries fault → RefusesPage t fault
stopped_page t begun (TooLong count) few can begins (m, text, h, le, long) = inr (
  few,
  le,
  text ++ FOOT.now,
  whole_page (first_entries count t) begun m text (text ++ FOOT.now) can begins h refl,
  omega (arith, length-append text FOOT.now, long),
)
stopped_page t begun (Refused fault) few can begins is =
    (few, subst (λ (f : ConfigFault). RefusesDrivers t.drivers f) (sym is) can)

-- the beginning of the page, as it is written
module _ (t : Transcript) (m : Machine) (opening head begun : List ℕ) (can : IsDriverList t.drivers)
    (same : m.drivers ≡ t.drivers) (none : m.configuration ≡ empty)
    (begins : BeginsTranscript t.version t.drivers [] opening) (is_head : head ≡ HEAD.now)
    (added : AddsStep m.drivers (view m.drivers m.configuration) (codes "beginning") opening head begun) where
  begins_page : Begins t begun
  begins_page = rw (same, none, opening_is t.version t.drivers opening begins, is_head) at added

  -- the page that is made
  pub page_made : (n : Machine) (es : List Entry) (text output : List ℕ) → es ≡ t.entries
      → ((drivers : List DriverSpec) (b : List ℕ) → HasStepped drivers b [] m begun → HasStepped drivers b es n text)
      → output ≡ text ++ FOOT.now → IsPageOf t output
  page_made n es text output are stepped ends =
      whole_page t begun n text output can begins_page
      (rw are at (stepped t.drivers begun (stepped_none t.drivers begun m same none))) ends

  -- the page that is given up
  pub page_given_up : (es : List Entry) (fault : PageFault) → es ≡ t.entries → length t.entries ≤ MAX_STEPS
      → ((drivers : List DriverSpec) (b : List ℕ) → HasStepped drivers b [] m begun → IsStopped drivers b es fault)
      → RefusesPage t fault
  page_given_up es fault are few stopped =
      stopped_page t begun fault few can begins_page
      (rw are at (stopped t.drivers begun (stepped_none t.drivers begun m same none)))

-- a page is refused with a fault that may refuse it
pub refuses_with : {A : Type 0} (t : Transcript) (f : PageFault) (answer : Result A PageFault)
    → IsErrAnd answer (λ e. e ≡ f) → RefusesPage t f → IfErr answer (RefusesPage t)
refuses_with t f (Ok v) is h = absurd is
refuses_with t f (Err e) is h = subst (RefusesPage t) (sym is) h
