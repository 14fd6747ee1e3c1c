-- A replay needs no later version than its transcript.
use Rattle.smx_trace.proofs.Common.{Bool, false, ◌||◌, refl, sym, ap, ◌∙◌, arith, or_from, or_parts, list_any, nat_lt}
use Rattle.smx_trace.proofs.Common.{Command, Entry, DriverSpec, Transcript, after, call_of, IsLegal, IsReplayOf}
use Rattle.std.proofs.Common.{◌≡◌, ℕ, List, [], ◌∷◌, length, map}
use Rattle.std.proofs.lemmas.List.{length-map}
use Rattle.smx_types.specs.Versions.{are_more_drivers, is_hangup, is_of_hangup, least_of_transcript, tells_of_hangup}
use Rattle.smx_types.specs.Versions.{version_2_where}
use Rattle.smx_types.specs.declared.version.Version.TheVariants.{V1}
use Rattle.smx_text.specs.TranscriptText.{IsAllowed, IsSpellable}
use Rattle.smx_text.proofs.TranscriptWholeLemmas.{allowed_spellable, spellable_allowed}
use Rattle.smx_text.proofs.LeastVersionLemmas.{is_first}

-- ---- what the laws of hangups say of a history without one

-- a legal history without hangup commands has no entry of a hangup
abbrev TellsOfNone : Type 0
TellsOfNone = (drivers : List DriverSpec) (history : List Entry) → IsLegal drivers history
    → list_any (λ e. is_hangup e.command) history ≡ false → list_any is_of_hangup history ≡ false

-- a history without hangup commands leaves no stream hung up
abbrev LeavesNone : Type 0
LeavesNone = (drivers : List DriverSpec) (history : List Entry)
    → list_any (λ e. is_hangup e.command) history ≡ false → (after drivers history).hungs ≡ []

-- ---- the replay

-- if no entry is of a hangup, no command is one
no_command : (es : List Entry) → list_any is_of_hangup es ≡ false → list_any (λ e. is_hangup e.command) es ≡ false
no_command [] h = refl
no_command (e ∷ es) h =
    let p = or_parts (is_of_hangup e) (list_any is_of_hangup es) h in
    or_from (is_hangup e.command) _ (or_parts (is_hangup e.command) (tells_of_hangup e.reply) p.0).0 (no_command es p.1)

-- the calls of a history determine whether one of its commands is a hangup
by_calls : (es : List Entry) → list_any (λ e. is_hangup e.command) es
    ≡ list_any (λ (call : ℕ × Command). is_hangup call.1) (map call_of es)
by_calls [] = refl
by_calls (e ∷ es) = ap (λ (b : Bool). is_hangup e.command || b) (by_calls es)

-- the replay of a transcript that version 1 allows is one that version 1 allows
quiet : TellsOfNone → LeavesNone → (t r : Transcript) → IsReplayOf t r → least_of_transcript t ≡ V1
    → least_of_transcript r ≡ V1
quiet tells leaves t r h least =
    let p = or_parts (are_more_drivers t.drivers) _ (is_first _ least) in
    let q = or_parts (list_any is_of_hangup t.entries) _ p.1 in
    let none : list_any (λ e. is_hangup e.command) r.entries ≡ false =
    by_calls r.entries ∙ ap (list_any (λ (call : ℕ × Command). is_hangup call.1)) h.calls ∙ sym (by_calls t.entries)
    ∙ no_command t.entries q.0 in
    let hung : (after t.drivers r.entries).hungs ≡ [] = leaves t.drivers r.entries none in
    let few : are_more_drivers r.drivers ≡ false = ap are_more_drivers h.drivers ∙ p.0 in
    let shown : nat_lt 0 (length r.view.hungs) ≡ false = rw (h.shown, hung) refl in
    ap version_2_where (or_from _ _ few (or_from _ _ (tells t.drivers r.entries h.legal none) shown))

-- a replay of an allowed transcript is allowed in its version, if it can be spelled
pub can_be_expressed : TellsOfNone → LeavesNone → (t r : Transcript) → IsAllowed t.version t → IsReplayOf t r
    → IsSpellable r → IsAllowed r.version r
can_be_expressed tells leaves t r allowed h spellable =
    let as_many : length (map call_of r.entries)
    ≡ length (map call_of t.entries) = ap (λ (calls : List (ℕ × Command)). length calls) h.calls in
    let was = (allowed_spellable t.version t allowed).1 in
    spellable_allowed r.version r refl (rw (h.version, h.drivers) allowed.drivers)
    (omega (arith, as_many, length-map r.entries call_of, length-map t.entries call_of, allowed.entries)) spellable
    (λ first. quiet tells leaves t r h (was (sym h.version ∙ first)))
