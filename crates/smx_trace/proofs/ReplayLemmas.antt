-- The replay of a transcript: there is exactly one, and this is its text.
use Rattle.smx_trace.proofs.Common.{refl, sym, ap, subst, ◌∙◌, Command, Entry, DriverSpec, Transcript, ConfigView}
use Rattle.smx_trace.proofs.Common.{step, Configuration, empty, IsDriverList, after, after_from, call_of, IsLegal}
use Rattle.smx_trace.proofs.Common.{view, transcript_with, HasCome, IsReplayOf}
use Rattle.std.proofs.Common.{◌≡◌, ℕ, List, [], ◌∷◌, ◌++◌, map}
use Rattle.smx_types.specs.declared.reply.Reply.{Reply}
use Rattle.smx_types.specs.declared.version.Version.{Version}
use Rattle.smx_model.specs.Histories.{IsLegalFrom}
use Rattle.smx_config.specs.Machine.{Machine}
use Rattle.smx_text.specs.GrowingTranscripts.{AreEntryLines}
use Rattle.smx_text.specs.TranscriptText.{IsSpellable, transcript_text}
use Rattle.smx_model.proofs.HistoryLemmas.{after_push}
use Rattle.smx_trace.specs.Answers.{answered, answers_from, answers}
use Rattle.smx_trace.specs.Replays.{IsReplayText}

-- ---- what the laws of histories say

-- two legal histories of the same calls are the same
abbrev pub AreDetermined : Type 0
AreDetermined = (drivers : List DriverSpec) (one other : List Entry) → IsLegal drivers one → IsLegal drivers other
    → map call_of one ≡ map call_of other → one ≡ other

-- ---- the entries of a replay

-- the entries of a replay are a legal history
legal_from : (drivers : List DriverSpec) (c : Configuration) (es : List Entry)
    → IsLegalFrom drivers c (answers_from drivers c es)
legal_from drivers c [] = tt
legal_from drivers c (e ∷ es) = (refl, legal_from drivers (step drivers c e.process e.command).0 es)

-- the entries of a replay are of the same calls as the replayed ones
calls_from : (drivers : List DriverSpec) (c : Configuration) (es : List Entry)
    → map call_of (answers_from drivers c es) ≡ map call_of es
calls_from drivers c [] = refl
calls_from drivers c (e ∷ es) =
    ap (λ (calls : List (ℕ × Command)). call_of e ∷ calls)
    (calls_from drivers (step drivers c e.process e.command).0 es)

-- the entries of a replay lead to the same configuration as the replayed ones, whatever their replies
pub led_from : (drivers : List DriverSpec) (c : Configuration) (es : List Entry)
    → after_from drivers c (answers_from drivers c es) ≡ after_from drivers c es
led_from drivers c [] = refl
led_from drivers c (e ∷ es) = led_from drivers (step drivers c e.process e.command).0 es

-- one more entry is answered by the configuration after the earlier ones
pub more_from : (drivers : List DriverSpec) (c : Configuration) (es : List Entry) (e : Entry)
    → answers_from drivers c (es ++ e ∷ []) ≡ answers_from drivers c es ++ answered drivers (after_from drivers c es) e
    ∷ []
more_from drivers c [] e = refl
more_from drivers c (d ∷ es) e =
    ap (λ (xs : List Entry). answered drivers c d ∷ xs) (more_from drivers (step drivers c d.process d.command).0 es e)

-- ---- there is one

-- the entries of a replay, with the view after them, make a replay of the transcript
pub replayed : (t : Transcript) (shown : ConfigView) → IsDriverList t.drivers
    → shown ≡ view t.drivers (after t.drivers t.entries)
    → IsReplayOf t (transcript_with t.version t.drivers (answers t.drivers t.entries) shown)
replayed t shown can is = record {
  version = refl;
  drivers = refl;
  valid_drivers = can;
  calls = calls_from t.drivers empty t.entries;
  legal = legal_from t.drivers empty t.entries;
  shown = is ∙ ap (view t.drivers) (sym (led_from t.drivers empty t.entries));
}

-- a transcript with valid drivers has a replay
pub always : (t : Transcript) → IsDriverList t.drivers → (r : Transcript) × IsReplayOf t r
always t can =
    let shown = view t.drivers (after t.drivers t.entries) in
    (transcript_with t.version t.drivers (answers t.drivers t.entries) shown, replayed t shown can refl)

-- transcripts with the same parts are the same
same_parts : (r s : Transcript) → r.version ≡ s.version → r.drivers ≡ s.drivers → r.entries ≡ s.entries
    → r.view ≡ s.view → r ≡ s
same_parts r s version drivers entries shown =
    ap (λ (v : Version). record r { version = v }) version
    ∙ ap (λ (ds : List DriverSpec). record r { version = s.version; drivers = ds }) drivers
    ∙ ap (λ (es : List Entry). record r { version = s.version; drivers = s.drivers; entries = es }) entries
    ∙ ap (λ (v : ConfigView). record s { view = v }) shown

-- a transcript has at most one replay
pub one : AreDetermined → (t r s : Transcript) → IsReplayOf t r → IsReplayOf t s → r ≡ s
one determined t r s h k =
    let entries : r.entries ≡ s.entries = determined t.drivers r.entries s.entries h.legal k.legal
    (h.calls ∙ sym k.calls) in
    same_parts r s (h.version ∙ sym k.version) (h.drivers ∙ sym k.drivers) entries
    (h.shown ∙ ap (λ (es : List Entry). view t.drivers (after t.drivers es)) entries ∙ sym k.shown)

-- transcripts of one version with the same drivers and calls have the same replays, whatever their replies and views
pub calls_alone : (t u r : Transcript) → u.version ≡ t.version → u.drivers ≡ t.drivers
    → map call_of u.entries ≡ map call_of t.entries
    → IsReplayOf t r → IsReplayOf u r
calls_alone t u r version drivers calls h = record {
  version = h.version ∙ sym version;
  drivers = h.drivers ∙ sym drivers;
  valid_drivers = rw drivers h.valid_drivers;
  calls = h.calls ∙ sym calls;
  legal = rw drivers h.legal;
  shown = rw drivers h.shown;
}

-- ---- what was written

-- before its first entry, a replay is up to no entries
pub begun : (drivers : List DriverSpec) (m : Machine) → m.drivers ≡ drivers → m.configuration ≡ empty
    → HasCome drivers [] m []
begun drivers m same now = record { same = same; now = now; written = record { written = refl; fit = tt } }

-- a replay that answers one more entry is up to that entry
pub one_more : (drivers : List DriverSpec) (asked : List Entry) (e : Entry) (old new : Machine) (reply : Reply)
    (lines more : List ℕ)
    → HasCome drivers asked old lines → new.drivers ≡ old.drivers
    → step old.drivers old.configuration e.process e.command ≡ (new.configuration, reply)
    → ((es : List Entry) → AreEntryLines es lines → AreEntryLines (es ++ record e { reply = reply } ∷ []) more)
    → HasCome drivers (asked ++ e ∷ []) new more
one_more drivers asked e old new reply lines more h same gets tells =
    let here : step drivers (after drivers asked) e.process e.command ≡ (new.configuration, reply) =
    rw (h.same, h.now) at gets in
    let told : answered drivers (after drivers asked) e ≡ record e { reply = reply } =
    ap (λ (x : Configuration × Reply). record e { reply = x.1 }) here in
    let behind : answers drivers asked ++ record e { reply = reply } ∷ [] ≡ answers drivers (asked ++ e ∷ []) =
    ap (λ (last : Entry). answers drivers asked ++ last ∷ []) (sym told) ∙ sym (more_from drivers empty asked e) in
    record {
      same = same ∙ h.same;
      now = sym (ap (λ (x : Configuration × Reply). x.0) here) ∙ sym (after_push drivers asked e);
      written = subst (λ (es : List Entry). AreEntryLines es more) behind (tells (answers drivers asked) h.written);
    }

-- the lines that a replay has written, with the view at its end, make the text of a replay
pub whole : (t : Transcript) (m : Machine) (lines output : List ℕ) (shown : ConfigView) → IsDriverList t.drivers
    → HasCome t.drivers t.entries m lines → shown ≡ view m.drivers m.configuration
    → ((es : List Entry) → AreEntryLines es lines
    → output ≡ transcript_text (transcript_with t.version t.drivers es shown))
    → ((es : List Entry) → AreEntryLines es lines → IsSpellable (transcript_with t.version t.drivers es shown))
    → IsReplayText t output
whole t m lines output shown can h is text spelled =
    let at_the_end : shown ≡ view t.drivers (after t.drivers t.entries) =
    is ∙ ap (λ (ds : List DriverSpec). view ds m.configuration) h.same ∙ ap (view t.drivers) h.now in
    record {
      replay = transcript_with t.version t.drivers (answers t.drivers t.entries) shown;
      replays = replayed t shown can at_the_end;
      written = text (answers t.drivers t.entries) h.written;
      spellable = spelled (answers t.drivers t.entries) h.written;
    }
