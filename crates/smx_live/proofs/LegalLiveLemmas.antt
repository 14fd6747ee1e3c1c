-- The output of a live session, without the answers that are not entries, is a legal transcript.
use Rattle.smx_live.proofs.Common.{◌≡◌, ℕ, ◌≤◌, Bool, false, List, [], ◌∷◌, ◌++◌, length, map, refl, sym, ap, subst}
use Rattle.smx_live.proofs.Common.{◌∙◌, append_assoc, rules, AllByRecursion, codes, Entry, DriverSpec, Version, step}
use Rattle.smx_live.proofs.Common.{Configuration, after, view, BeginsTranscript, IsOver, Entered, Shown, NotDone}
use Rattle.smx_live.proofs.Common.{Turn, Answer, AreAnswered, IsAnswer, IsEntryOf, entries_in, entries_of}
use Rattle.std.proofs.lemmas.Bool.{or_from}
use Rattle.std.proofs.lemmas.List.{append-nil}
use Rattle.std.specs.List.{list_any}
use Rattle.std.specs.Prelude.{nat_lt}
use Rattle.smx_types.specs.Versions.{is_hangup, is_of_hangup, least_of_transcript, most_drivers, version_2_where}
use Rattle.smx_types.specs.declared.limits.TheConstants.{MAX_DRIVERS_OF_VERSION_1}
use Rattle.smx_types.specs.declared.version.Version.TheVariants.{V1}
use Rattle.smx_types.specs.declared.view.ConfigView.{ConfigView}
use Rattle.smx_model.specs.Histories.{IsLegal}
use Rattle.smx_words.specs.Spellable.{FitsEntry}
use Rattle.smx_words.specs.Spelling.{entry_words}
use Rattle.smx_words.specs.Words.{text_of}
use Rattle.smx_text.specs.TranscriptText.{transcript_text, view_lines, IsAllowed}
use Rattle.smx_text.proofs.GrowingLemmas.{grown, finished}
use Rattle.smx_text.proofs.TranscriptWholeLemmas.{spellable_allowed}
use Rattle.smx_live.specs.LiveText.{IsLegalTranscript, transcript_of, transcript_part}

-- ---- what the laws of histories say

-- a legal history stays legal with one more entry that has the reply of its command
abbrev pub StaysLegal : Type 0
StaysLegal = (drivers : List DriverSpec) (history : List Entry) (e : Entry) → IsLegal drivers history
    → (step drivers (after drivers history) e.process e.command).1 ≡ e.reply → IsLegal drivers (history ++ e ∷ [])

-- a legal history without hangup commands has no entry of a hangup
abbrev pub TellsOfNone : Type 0
TellsOfNone = (drivers : List DriverSpec) (history : List Entry) → IsLegal drivers history
    → list_any (λ e. is_hangup e.command) history ≡ false → list_any is_of_hangup history ≡ false

-- a history without hangup commands leaves no stream hung up
abbrev pub LeavesNone : Type 0
LeavesNone = (drivers : List DriverSpec) (history : List Entry)
    → list_any (λ e. is_hangup e.command) history ≡ false → (after drivers history).hungs ≡ []

-- ---- the entries of a session

-- a legal history stays legal with the entries of the turns that were answered after it
legal_from : StaysLegal → (v : Version) (ds : List DriverSpec) (h : List Entry) (ts : List Turn) → AreAnswered v ds h ts
    → IsLegal ds h → IsLegal ds (h ++ entries_of ts)
legal_from stays v ds h [] was legal = subst (IsLegal ds) (sym (append-nil h)) legal
legal_from stays v ds h (t ∷ ts) was legal =
    subst (IsLegal ds) (append_assoc h (entries_in t.answer) (entries_of ts))
    (legal_from stays v ds (h ++ entries_in t.answer) ts was.2 (one t.answer was.1)) where
      one : (a : Answer) → IsAnswer v ds h t.line a → IsLegal ds (h ++ entries_in a)
      one (Entered e) is = stays ds h e legal is.legal
      one (Shown s) is = subst (IsLegal ds) (sym (append-nil h)) legal
      one (NotDone w) is = subst (IsLegal ds) (sym (append-nil h)) legal

-- what holds of each entry that answers a line holds of all entries of answered turns
each : (v : Version) (ds : List DriverSpec) (IsSo : Entry → Type 0)
    → ((h : List Entry) (line : List ℕ) (e : Entry) → IsEntryOf v ds h line e → IsSo e) → (h : List Entry)
    (ts : List Turn) → AreAnswered v ds h ts → AllByRecursion IsSo (entries_of ts)
each v ds IsSo so h [] was = tt
each v ds IsSo so h (t ∷ ts) was = one t.answer was.1 (each v ds IsSo so (h ++ entries_in t.answer) ts was.2) where
  one : (a : Answer) → IsAnswer v ds h t.line a → AllByRecursion IsSo (entries_of ts)
      → AllByRecursion IsSo (entries_in a ++ entries_of ts)
  one (Entered e) is behind = (so h t.line e is, behind)
  one (Shown s) is behind = behind
  one (NotDone w) is behind = behind

-- if no entry is a hangup, none is found
none_found : (es : List Entry) → AllByRecursion (λ e. is_hangup e.command ≡ false) es
    → list_any (λ e. is_hangup e.command) es ≡ false
none_found [] none = refl
none_found (e ∷ es) none = or_from (is_hangup e.command) _ none.0 (none_found es none.1)

-- if no stream has hung up, the view shows none
none_shown : (ds : List DriverSpec) (c : Configuration) → c.hungs ≡ [] → nat_lt 0 (length (view ds c).hungs) ≡ false
none_shown ds c none = rw none refl

-- no more drivers than version 1 allows are no reason for version 2
few_drivers : (n : ℕ) → n ≤ MAX_DRIVERS_OF_VERSION_1 → nat_lt MAX_DRIVERS_OF_VERSION_1 n ≡ false
few_drivers n few = search rules

module _ (stays : StaysLegal) (tells : TellsOfNone) (leaves : LeavesNone)
    {explain : Bool} {read : List ℕ} {ended : Bool} {output : List ℕ} (o : IsOver explain read ended output) where
  -- the entries of the session
  abbrev es : List Entry
  es = entries_of o.live.turns

  -- the entries of the session are a legal history
  legal : IsLegal o.s.drivers es
  legal = legal_from stays o.s.version o.s.drivers [] o.live.turns o.live.answered tt

  -- every entry of the session can be spelled
  fit : AllByRecursion FitsEntry es
  fit = each o.s.version o.s.drivers FitsEntry (λ h line e is. is.spelled) [] o.live.turns o.live.answered

  -- the configuration after the entries of the session, as it is shown
  abbrev shown : ConfigView
  shown = view o.s.drivers o.s.configuration

  -- the opening and the lines of the entries are the beginning of a transcript
  begins : BeginsTranscript o.s.version o.s.drivers es (o.live.opening ++ text_of (map entry_words es))
  begins = grown o.s.version o.s.drivers [] es o.live.opening _ refl fit o.live.begins

  -- what was written, without the answers that are not entries, is the text of the session's transcript
  text : transcript_part o ≡ transcript_text (transcript_of o)
  text =
      let start : List ℕ = o.live.opening ++ text_of (map entry_words es) in
      sym (append_assoc start (view_lines shown) (codes "end\n"))
      ∙ finished o.s.version o.s.drivers es shown start _ _ refl refl begins

  -- the session has no more drivers than its version allows
  few : length o.s.drivers ≤ most_drivers o.s.version
  few = rw o.live.drivers o.live.spelled.allowed.drivers

  -- in version 1 the session's transcript needs no later version
  told : o.s.version ≡ V1 → least_of_transcript (transcript_of o) ≡ V1
  told first =
      let none : list_any (λ e. is_hangup e.command) es ≡ false =
      none_found es (each V1 o.s.drivers (λ e. is_hangup e.command ≡ false) (λ h line e is. is.in_version.1) []
      o.live.turns (rw first at o.live.answered)) in
      let hung : o.s.configuration.hungs ≡ [] =
      ap (λ (c : Configuration). c.hungs) o.live.now ∙ leaves o.s.drivers es none in
      ap version_2_where (or_from _ _ (few_drivers (length o.s.drivers) (rw first at few))
      (or_from _ _ (tells o.s.drivers es legal none) (none_shown o.s.drivers o.s.configuration hung)))

  -- the session's transcript is allowed in its version
  allowed : IsAllowed o.s.version (transcript_of o)
  allowed = spellable_allowed o.s.version (transcript_of o) refl few o.live.few
      record { drivers = o.live.begins.drivers_fit; entries = fit; view = o.spellable } told

  -- what a session wrote, without the answers that are not entries, is a transcript that a check finds legal
  pub is_legal : IsLegalTranscript o
  is_legal = record {
    spelled = record { allowed = allowed; text = text };
    legal = (legal, ap (view o.s.drivers) o.live.now);
  }
