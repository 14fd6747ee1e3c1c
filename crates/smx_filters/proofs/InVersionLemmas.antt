-- A report of programs is allowed in their version, and its text is a transcript.
use Rattle.smx_filters.proofs.Common.{◌≡◌, ℕ, ◌≤◌, Bool, true, false, List, length, map, refl, sym, ap, subst, ◌∙◌}
use Rattle.smx_filters.proofs.Common.{rules, ProgramLists, Entry, DriverSpec, Transcript, Version, IsReportOf}
use Rattle.smx_filters.proofs.Common.{call_of, calls_from, IsWrittenFor, transcript_text}
use Rattle.std.proofs.Common.{◌||◌}
use Rattle.smx_types.specs.ProgramLists.{AreWithinLimits}
use Rattle.smx_types.specs.Versions.{are_more_drivers, least_of_transcript, most_drivers, version_2_where}
use Rattle.smx_types.specs.declared.limits.TheConstants.{MAX_COMMANDS, MAX_DRIVERS}
use Rattle.smx_types.specs.declared.version.Version.TheVariants.{V1, V2}
use Rattle.smx_types.specs.declared.view.ConfigView.{ConfigView}
use Rattle.smx_model.specs.Histories.{after}
use Rattle.smx_model.specs.Views.{view}
use Rattle.smx_shared.specs.Recorded.{Recorded}
use Rattle.smx_run.specs.Reports.{transcript_in}
use Rattle.smx_text.specs.GrowingTranscripts.{transcript_with, AreEntryLines}
use Rattle.smx_text.specs.TranscriptText.{IsAllowed, IsSpellable, SpellsTranscript}
use Rattle.smx_text.proofs.TranscriptWholeLemmas.{spellable_allowed}
use Rattle.smx_model.proofs.QuietHistoryLemmas.{report_is_quiet}

-- what version 1 allows has no more drivers than version 1 does
not_more : (more other : Bool) → version_2_where (more || other) ≡ V1 → more ≡ false
not_more true other is = absurd cc
not_more false other is = refl

-- so there are no more drivers than the version allows
few_drivers : (version : Version) (drivers : List DriverSpec) → length drivers ≤ MAX_DRIVERS
    → (version ≡ V1 → are_more_drivers drivers ≡ false) → length drivers ≤ most_drivers version
few_drivers V1 drivers few fits = let is = fits refl in search rules
few_drivers V2 drivers few fits = few

-- what the limits of programs say of a report in their version
pub told : (p : ProgramLists) (r : Transcript) → AreWithinLimits p → IsReportOf p r
    → r.version ≡ p.version → r.version ≡ V1 → least_of_transcript r ≡ V1
told p r within report same is = report_is_quiet p r report (within.version (sym same ∙ is))

-- the transcript of such a report is within the limits of its version
pub can_be_expressed : (p : ProgramLists) (r : Transcript) → AreWithinLimits p → IsReportOf p r
    → r.version ≡ p.version → length r.entries ≤ MAX_COMMANDS → IsSpellable r → IsAllowed r.version r
can_be_expressed p r within report same few spellable =
    spellable_allowed r.version r refl
    (few_drivers r.version r.drivers
    (subst (λ (ds : List DriverSpec). length ds ≤ MAX_DRIVERS) (sym report.drivers) within.drivers)
    (λ is. not_more _ _ (told p r within report same is))) few spellable (told p r within report same)

-- and its one text spells it
pub spelled : (p : ProgramLists) (r : Transcript) → AreWithinLimits p → IsReportOf p r
    → r.version ≡ p.version → length r.entries ≤ MAX_COMMANDS → IsSpellable r → (bytes : List ℕ)
    → bytes ≡ transcript_text r
    → SpellsTranscript bytes r
spelled p r within report same few spellable bytes is = record {
  allowed = can_be_expressed p r within report same few spellable;
  text = is;
}

-- the transcript of a run, from the lines of the entries that it made
pub transcript_written : (workers : ℕ) (p : ProgramLists) (s : Recorded) (version : Version)
    (drivers : List DriverSpec) (shown : ConfigView) (lines output : List ℕ)
    → AreWithinLimits p → IsReportOf p (transcript_in p.version s) → length s.history ≤ MAX_COMMANDS
    → version ≡ p.version → drivers ≡ s.drivers → shown ≡ view s.drivers (after s.drivers s.history)
    → AreEntryLines s.history lines
    → ((es : List Entry) → AreEntryLines es lines
    → output ≡ transcript_text (transcript_with version drivers es shown))
    → ((es : List Entry) → AreEntryLines es lines → IsSpellable (transcript_with version drivers es shown))
    → (workers ≤ 1 → map call_of s.history ≡ calls_from 0 p.programs)
    → IsWrittenFor false workers p output
transcript_written workers p s version drivers shown lines output within promised few v d w are text fits in_turn =
    let report = transcript_in p.version s in
    let same : transcript_with version drivers s.history shown ≡ report = rw (v, d, w) refl in
    record {
      report = report;
      promised = promised;
      in_turn = in_turn;
      version = refl;
      written = spelled p report within promised refl few (subst IsSpellable same (fits s.history are)) output
          (text s.history are ∙ ap transcript_text same);
    }
