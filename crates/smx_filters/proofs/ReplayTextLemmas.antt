-- The output and the refusals of a replay, and the laws of replays over bytes.
use Rattle.smx_filters.proofs.Common.{◌≡◌, ℕ, List, length, Option, Some, None, refl, sym, ap}
use Rattle.smx_filters.proofs.Common.{subst, ◌∙◌, Transcript, Version, Spells}
use Rattle.smx_filters.proofs.Common.{transcript_grammar, transcript_text, IsVerdict}
use Rattle.smx_filters.proofs.Common.{Legal, checking, GivesFor}
use Rattle.smx_model.specs.DriverList.{IsDriverList}
use Rattle.smx_text.specs.Grammar.{full_text}
use Rattle.smx_text.specs.TranscriptText.{IsAllowed}
use Rattle.smx_trace.specs.Replays.{IsReplayOf, IsReplayText}
use Rattle.smx_filters.specs.CheckText.{verdict_line}
use Rattle.smx_filters.specs.Products.{IsPastEnd, IsProductOf, asked_part, making}
use Rattle.smx_run.specs.declared.product.Product.TheVariants.{Replay}
use Rattle.smx_model.proofs.QuietHistoryLemmas.{quiet_replies, quiet_streams}
use Rattle.smx_trace.proofs.PrefixLemmas.{first_allowed}
use Rattle.smx_trace.proofs.QuietLemmas.{can_be_expressed}
use Rattle.smx_run.proofs.ReadingLemmas.{HasOneReading, one_value}

-- ---- what other crates' laws say

-- a transcript has only one replay
abbrev pub HasOneReplay : Type 0
HasOneReplay = (t r s : Transcript) → IsReplayOf t r → IsReplayOf t s → r ≡ s

-- a legal transcript is its own replay
abbrev IsItsOwn : Type 0
IsItsOwn = (t : Transcript) → IsDriverList t.drivers → IsVerdict t.drivers t.entries t.view Legal → IsReplayOf t t

-- the verdict on a replay is legal
abbrev IsJudgedLegal : Type 0
IsJudgedLegal = (t r : Transcript) → IsReplayOf t r → IsVerdict r.drivers r.entries r.view Legal

-- ---- a replay

-- the part of an allowed transcript is allowed
part_allowed : (at : Option ℕ) (t : Transcript) → IsAllowed t.version t
    → IsAllowed (asked_part at t).version (asked_part at t)
part_allowed None t h = h
part_allowed (Some count) t h = first_allowed count t h

-- a part has the drivers of the transcript
pub part_drivers : (at : Option ℕ) (t : Transcript) → (asked_part at t).drivers ≡ t.drivers
part_drivers None t = refl
part_drivers (Some count) t = refl

-- the text of the replay of the part of an allowed transcript is a transcript of the same version
pub replay_made : (at : Option ℕ) (t : Transcript) → IsAllowed t.version t → (IsPastEnd at t → ⊥)
    → (text : List ℕ) → IsReplayText (asked_part at t) text → IsProductOf (Replay at) t text
replay_made at t allowed enough text h = (
  enough,
  record {
    replay = h.replay;
    replays = h.replays;
    written =
        record {
          allowed = can_be_expressed quiet_replies quiet_streams (asked_part at t) h.replay
              (part_allowed at t allowed) h.replays h.spellable;
          text = h.written;
        };
  },
)

-- ---- laws

-- bytes that spell a transcript are its one text
its_text : (version : Version) (bytes : List ℕ) (t : Transcript) → Spells (transcript_grammar version) bytes t
    → bytes ≡ transcript_text t
its_text version bytes t h =
    h.text ∙ ap (λ (v : Version). full_text (transcript_grammar v) t) (sym h.allowed.version_is)

-- two replays of one text have the same output
pub one_replay : HasOneReading transcript_grammar → HasOneReplay → (at : Option ℕ) (input one other : List ℕ)
    (done : Unit {0}) → GivesFor (making (Replay at)) input done one → GivesFor (making (Replay at)) input done other
    → one ≡ other
one_replay reading determined at input one other done (v, t, spells, gives_one) (w, u, spells_too, gives_other) =
    let h = gives_one.1 in let k = gives_other.1 in
    let same : t ≡ u = one_value transcript_grammar reading input v w t u spells spells_too in
    let first : IsReplayOf (asked_part at u) h.replay =
    subst (λ (x : Transcript). IsReplayOf (asked_part at x) h.replay) same h.replays in
    h.written.text ∙ ap transcript_text (determined (asked_part at u) h.replay k.replay first k.replays)
    ∙ sym k.written.text

-- a legal transcript is given back
pub given_back : HasOneReading transcript_grammar → HasOneReplay → IsItsOwn
    → (input line output : List ℕ) (done : Unit {0}) → GivesFor checking input Legal line
    → GivesFor (making (Replay None)) input done output → output ≡ input
given_back reading determined own input line output done (v, t, spells, judged) (w, u, spells_too, gives_it) =
    let k = gives_it.1 in
    let same : u ≡ t = one_value transcript_grammar reading input w v u t spells_too spells in
    let replays : IsReplayOf t k.replay = subst (λ (x : Transcript). IsReplayOf x k.replay) same k.replays in
    k.written.text ∙ ap transcript_text (determined t k.replay t replays (own t judged.valid_drivers judged.judged))
    ∙ sym (its_text v input t spells)

-- the output of a replay is legal
pub judged_legal : IsJudgedLegal → (at : Option ℕ) (input output : List ℕ) (done : Unit {0})
    → GivesFor (making (Replay at)) input done output → (line : List ℕ) × GivesFor checking output Legal line
judged_legal legal at input output done (v, t, spells, gives_it) = let h = gives_it.1 in (
  verdict_line (length h.replay.entries) Legal,
  (
    h.replay.version,
    h.replay,
    h.written,
    record {
      valid_drivers = rw h.replays.drivers h.replays.valid_drivers;
      judged = legal (asked_part at t) h.replay h.replays;
      written = refl;
    },
  ),
)
