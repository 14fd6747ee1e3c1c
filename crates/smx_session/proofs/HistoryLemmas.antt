-- Lines make a legal history, and the texts of a session are its transcript.
use Rattle.std.proofs.Common.{◌≡◌, ℕ, List, [], ◌∷◌, ◌++◌, append_assoc, append-nil, Some, refl, sym, ap, subst, ◌∙◌}
use Rattle.std.specs.Prelude.{codes, map}
use Rattle.smx_types.specs.declared.command.Entry.{Entry}
use Rattle.smx_types.specs.declared.driver.DriverSpec.{DriverSpec}
use Rattle.smx_types.specs.declared.reply.Reply.{Reply}
use Rattle.smx_model.specs.Commands.{step}
use Rattle.smx_model.specs.Configuration.{Configuration}
use Rattle.smx_model.specs.Histories.{IsLegal, after}
use Rattle.smx_model.specs.Views.{view}
use Rattle.smx_text.specs.GrowingTranscripts.{BeginsTranscript, transcript_with}
use Rattle.smx_text.specs.TranscriptText.{transcript_text}
use Rattle.smx_text.proofs.GrowingLemmas.{finished, grown}
use Rattle.smx_words.specs.Spellable.{FitsEntry}
use Rattle.smx_words.specs.Spelling.{entry_line, entry_words}
use Rattle.smx_words.specs.Words.{text_of}
use Rattle.smx_session.specs.Sessions.{IsAfter, IsLastLine, IsStartOf, Performs, State, shown_lines}

-- a history with one more entry leads where the command of that entry leads
abbrev pub IsOneFurther : Type 0
IsOneFurther = (drivers : List DriverSpec) (history : List Entry) (e : Entry)
    → after drivers (history ++ e ∷ []) ≡ (step drivers (after drivers history) e.process e.command).0

-- a legal history stays legal with one more entry that has the reply of its command
abbrev pub StaysLegal : Type 0
StaysLegal = (drivers : List DriverSpec) (history : List Entry) (e : Entry) → IsLegal drivers history
    → (step drivers (after drivers history) e.process e.command).1 ≡ e.reply → IsLegal drivers (history ++ e ∷ [])

-- a session that starts is after the empty history
pub begins : (text : List ℕ) (s : State) → IsStartOf text s → IsAfter [] s
begins text s h = record { legal = tt; now = h.nothing }

-- a session that performs a line is after one more entry
pub goes_on : IsOneFurther → StaysLegal → (history : List Entry) (old new : State) (line : List ℕ)
    → IsAfter history old → Performs old line new
    → (e : Entry) × (new.last ≡ Some e) × IsAfter (history ++ e ∷ []) new
goes_on further stays history old new line come h =
    let e : Entry = h.entry in
    let does : step old.drivers (after old.drivers history) e.process e.command ≡ (new.configuration, e.reply) =
    subst (λ (c : Configuration). step old.drivers c e.process e.command ≡ (new.configuration, e.reply)) come.now
    h.does in
    let is : new.configuration ≡ after old.drivers (history ++ e ∷ []) =
    sym (ap (λ (p : Configuration × Reply). p.0) does) ∙ sym (further old.drivers history e) in
    let legal : IsLegal old.drivers (history ++ e ∷ []) =
    stays old.drivers history e come.legal (ap (λ (p : Configuration × Reply). p.1) does) in (
      e,
      h.last,
      record {
        legal = subst (λ (ds : List DriverSpec). IsLegal ds (history ++ e ∷ [])) (sym h.drivers) legal;
        now =
            subst (λ (ds : List DriverSpec). new.configuration ≡ after ds (history ++ e ∷ [])) (sym h.drivers) is;
      },
    )

-- the beginning of a transcript, followed by the line of the last entry, is the beginning with that entry
pub grows : (s : State) (before : List Entry) (e : Entry) (text line : List ℕ)
    → BeginsTranscript s.version s.drivers before text → s.last ≡ Some e → FitsEntry e → IsLastLine s line
    → BeginsTranscript s.version s.drivers (before ++ e ∷ []) (text ++ line)
grows s before e text line was last fits (made, is, written) =
    let same : Some made ≡ Some e = sym is ∙ last in
    let one : made ≡ e = cc in
    let said : line ≡ text_of (map entry_words (e ∷ [])) =
    written ∙ (ap entry_line one ∙ sym (append-nil (entry_line e))) in
    grown s.version s.drivers before (e ∷ []) text (text ++ line) (ap (λ (t : List ℕ). text ++ t) said) (fits, tt) was

-- the beginning of a transcript, followed by the lines of the configuration and `end`, is the whole transcript
pub ends : (s : State) (entries : List Entry) (text : List ℕ) → BeginsTranscript s.version s.drivers entries text
    → text ++ (shown_lines s ++ codes "end\n")
    ≡ transcript_text (transcript_with s.version s.drivers entries (view s.drivers s.configuration))
ends s entries text was =
    sym (append_assoc text (shown_lines s) (codes "end\n"))
    ∙ finished s.version s.drivers entries (view s.drivers s.configuration) text _ _ refl refl was
