-- The stages of a live session, by the result of each, and how the session ends.
use Rattle.smx_live.proofs.Common.{◌≡◌, ℕ, ◌+◌, ◌<◌, ◌≤◌, ◌^◌, Bool, true, false, List, [], ◌++◌, length, take, drop}
use Rattle.smx_live.proofs.Common.{refl, sym, ap, append_assoc, arith, inl, inr, Consumes-trans, length-append}
use Rattle.smx_live.proofs.Common.{Consumes, ⊤, DriverSpec, Version, Configuration, IsOneLine, State, MainFault}
use Rattle.smx_live.proofs.Common.{Refused, Text, TooLong, ReadFailed, WriteFailed, MAX_INPUT, FailsToRead, HasLine}
use Rattle.smx_live.proofs.Common.{IsTooLong, IsLive, IsOutcome, IsOver, Answer, IsBelow, NotDone, Progress}
use Rattle.smx_live.proofs.Common.{NoCommand, NoMemory}
use Rattle.std.proofs.Common.{Option, Result, Ok, Err}
use Rattle.std.proofs.KnownBytes.{Appends-kept, Appends-nil, Appends-trans, Consumes-nil}
use Rattle.std.proofs.Math.Seq.{take-append-add}
use Rattle.std.proofs.lemmas.List.{append-nil, length-drop}
use Rattle.std.specs.Io.KnownBytes.{Appends}
use Rattle.smx_live.specs.LiveStages.{Converses, Finishes, IsPossible}
use Rattle.smx_live.specs.LiveTurns.{FailsToSay, IsTurnText, Says, TakesTurn, Writes}
use Rattle.smx_live.specs.Turns.{IsTaken, answer_text}
use Rattle.smx_live.specs.declared.talk.TurnFault.{TurnFault}
use Rattle.smx_live.specs.declared.talk.TurnFault.TheVariants.{Full}
use Rattle.smx_live.proofs.LiveLemmas.{ended_by_line, turned, with_more}

-- ---- one turn

-- nothing is below the line that reports a fault, if no explanation is
pub unexplained : (explain : Bool) (w : TurnFault) → ((w ≡ NoCommand) × (explain ≡ true) → ⊥)
    → (version : Version) (drivers : List DriverSpec) (tracing : Bool) (c d : Configuration) (line : List ℕ)
    → IsBelow explain version drivers tracing c d line (NotDone w) []
unexplained true NoCommand none version drivers tracing c d line = absurd (none (refl, refl))
unexplained false NoCommand none version drivers tracing c d line = refl
unexplained explain NoMemory none version drivers tracing c d line = refl
unexplained explain Full none version drivers tracing c d line = refl

-- a text that was written was said, if it is right and possible
pub said : {A : Type 0} (text : List ℕ) (x : A) (Right : A → List ℕ → Type 0) (Possible : List ℕ → Type 0)
    (Wanting : Type 0) (before after : Option (List ℕ)) (flushed : Bool) (failures : ℕ) (r : Result A MainFault)
    → Writes text x before after flushed failures r → Right x text → Possible text
    → Says Right Possible Wanting before after flushed failures r
said text x Right Possible Wanting before after flushed failures (Ok y) h right possible =
    (h.0, h.1, h.2, h.3, rw (h.4.0, h.4.1) right)
said text x Right Possible Wanting before after flushed failures (Err WriteFailed) h right possible =
    (h.0, h.1, h.2, rw h.3 possible)
said text x Right Possible Wanting before after flushed failures (Err (Refused f)) h right possible = absurd h.3
said text x Right Possible Wanting before after flushed failures (Err (Text f)) h right possible = absurd h
said text x Right Possible Wanting before after flushed failures (Err TooLong) h right possible = absurd h
said text x Right Possible Wanting before after flushed failures (Err ReadFailed) h right possible = absurd h

module _ (explain : Bool) (s next : State) (far more : Progress) (line text : List ℕ) (before after : Option (List ℕ))
    (flushed : Bool) (failures : ℕ) where
  -- the answer to the line, with what belongs below it, was written
  pub answered_with : (a : Answer) (below : List ℕ) (r : Result Bool MainFault)
      → Writes text false before after flushed failures r → IsTaken s far line a next more
      → IsBelow explain s.version s.drivers far.tracing s.configuration next.configuration line a below
      → text ≡ answer_text a ++ below → TakesTurn explain s far line next more before after flushed failures r
  answered_with a below r h taken belongs is =
      let may : IsTurnText explain s far line next more false text = (a, below, taken, belongs, is) in
      said text false (IsTurnText explain s far line next more) _ _ before after flushed failures r h may
      (inl (next, more, may))

  -- the answer to the line was written, and nothing belongs below it
  pub answered_alone : (a : Answer) (r : Result Bool MainFault) → Writes text false before after flushed failures r
      → IsTaken s far line a next more
      → IsBelow explain s.version s.drivers far.tracing s.configuration next.configuration line a []
      → text ≡ answer_text a → TakesTurn explain s far line next more before after flushed failures r
  answered_alone a r h taken belongs is = answered_with a [] r h taken belongs (rw append-nil is)

-- ---- a session after a turn, and at the end of its input

module _ {explain : Bool} {read : List ℕ} {ended : Bool} {output : List ℕ} {s : State}
    {far : Progress} {n : ℕ} {held : List ℕ} (l : IsLive explain read ended output s far held) (line : HasLine n held)
    (small : n ≤ MAX_INPUT) where
  -- with this text, the session has ended; or it goes on with this state
  abbrev pub GoesOn : State → Progress → Bool → List ℕ → Type 0
  GoesOn later many true text = IsOver explain read ended (output ++ text)
  GoesOn later many false text = IsLive explain read ended (output ++ text) later many (drop (n + 1) held)

  -- after any text for the first line, the session goes on or has ended
  goes_on : (over : Bool) (text : List ℕ) (later : State) (many : Progress)
      → IsTurnText explain s far (take n held) later many over text
      → GoesOn later many over text
  goes_on true text later many closing = ended_by_line l line small text later many closing
  goes_on false text later many (a, below, taken, belongs, is) =
      rw is (turned l line small a below later many taken belongs)

  -- what holds of a turn over the held bytes holds over everything that was read
  pub turned_on : (next : State) (more : Progress) (before after : Option (List ℕ)) (flushed : Bool) (failures : ℕ)
      (r : Result Bool MainFault) → TakesTurn explain s far (take n held) next more before after flushed failures r
      → Says (GoesOn next more) (IsPossible explain read output ended) ⊤ before after flushed failures r
  turned_on next more before after flushed failures (Ok over) h =
      (h.0, h.1, h.2, h.3, goes_on over h.2 next more h.4)
  turned_on next more before after flushed failures (Err WriteFailed) (failed, text, cut, inl (later, many, may)) =
      (failed, text, cut, inl (later, many, drop (n + 1) held, goes_on false text later many may))
  turned_on next more before after flushed failures (Err WriteFailed) (failed, text, cut, inr closing) =
      (failed, text, cut, inr (goes_on true text next more closing))
  turned_on next more before after flushed failures (Err (Refused f)) h = (h.0, h.1, h.2, tt)
  turned_on next more before after flushed failures (Err (Text f)) h = absurd h
  turned_on next more before after flushed failures (Err TooLong) h = absurd h
  turned_on next more before after flushed failures (Err ReadFailed) h = absurd h

-- ---- turn after turn

-- A session started with `start` bytes held. It has since read and written more and taken `turn` turns, and now has
-- this state, number of entries and bytes held.
pub record HasGone (explain : Bool) (read output : List ℕ) (start : ℕ) (had left before after : Option (List ℕ))
    (turn : ℕ) (ended : Bool) (s : State) (far : Progress) (held : List ℕ) : Type 0 where
  pub more : List ℕ
  pub consumed : Consumes had left more
  pub said : List ℕ
  pub appended : Appends before after said
  pub live : IsLive explain (read ++ more) ended (output ++ said) s far held
  -- each turn took at least one byte
  pub took : turn + length held ≤ start + length more

-- a session that goes on has read, written and answered nothing more at first
pub begins : {explain : Bool} {read output : List ℕ} {had before : Option (List ℕ)} {ended : Bool} {s : State}
    {far : Progress} {held : List ℕ} → IsLive explain read ended output s far held
    → HasGone explain read output (length held) had had before before 0 ended s far held
begins {explain} {read} {output} {had} {before} {ended} {s} {far} {held} l = record {
  more = [];
  consumed = Consumes-nil had;
  said = [];
  appended = Appends-nil before;
  live = rw (append-nil read, append-nil output) l;
  took = omega arith;
}

module _ {explain : Bool} {read output : List ℕ} {start : ℕ} {had left before after : Option (List ℕ)} {turn : ℕ}
    {ended : Bool} {s : State} {far : Progress} {held : List ℕ}
    (g : HasGone explain read output start had left before after turn ended s far held) where
  -- a session that has gone this far still has after it reads more
  pub reads : {later : Option (List ℕ)} {now : Bool} {piece longer : List ℕ} → Consumes left later piece
      → longer ≡ held ++ piece → (ended ≡ true → (piece ≡ []) × (now ≡ true))
      → HasGone explain read output start had later before after turn now s far longer
  reads {later} {now} {piece} {longer} c is stays = record {
    more = g.more ++ piece;
    consumed = Consumes-trans had left later g.more piece g.consumed c;
    said = g.said;
    appended = g.appended;
    live = rw (is, ← append_assoc read g.more piece) (with_more piece g.live stays);
    took = omega (
      arith,
      g.took,
      ap (λ (bs : List ℕ). length bs) is,
      length-append held piece,
      length-append g.more piece,
    );
  }

  -- a session that has gone this far and takes a turn has gone one turn further
  pub turns : {later : Option (List ℕ)} (text : List ℕ) {next : State} {many : Progress} {n : ℕ} {rest : List ℕ}
      → Appends after later text → IsLive explain (read ++ g.more) ended ((output ++ g.said) ++ text) next many rest
      → n < length held → rest ≡ drop (n + 1) held
      → HasGone explain read output start had left before later (turn + 1) ended next many rest
  turns {later} text {next} {many} {n} {rest} p l within is = record {
    more = g.more;
    consumed = g.consumed;
    said = g.said ++ text;
    appended = Appends-trans before after later g.said text g.appended p;
    live = rw append_assoc at l;
    took = omega (arith, g.took, within, ap (λ (bs : List ℕ). length bs) is, length-drop (n + 1) held);
  }

-- ---- how a session ends

module _ {explain : Bool} {read output : List ℕ} {start : ℕ} {had left before after : Option (List ℕ)} {turn : ℕ}
    {ended : Bool} {s : State} {far : Progress} {held : List ℕ}
    (g : HasGone explain read output start had left before after turn ended s far held)
    (flushed : Bool) {reads : ℕ} (writes : ℕ) (fed : reads ≡ 0) (now : Option (List ℕ)) where
  -- a session that writes one text more ends as the whole of what it wrote says
  says : (text : List ℕ) (r : Result (Unit {0}) MainFault) → Appends after now text
      → IsOutcome explain (read ++ g.more) ((output ++ g.said) ++ text) ended flushed reads writes r
      → Converses explain read output had left ended reads before now flushed writes r
  says text r p is = record {
    more = g.more;
    consumed = g.consumed;
    said = g.said ++ text;
    appended = Appends-trans before after now g.said text g.appended p;
    outcome = rw append_assoc at is;
  }

  -- a session that has ended, with its last text written, ends without a fault
  pub over : (text : List ℕ) → writes ≡ 0 → flushed ≡ true → Appends after now text
      → IsOver explain (read ++ g.more) ended ((output ++ g.said) ++ text)
      → Converses explain read output had left ended reads before now flushed writes (Ok tt)
  over text fine all p o = says text (Ok tt) p ((fed, fine), all, o)

  -- a session that could not write its text, or ran out of memory for it, ends with that fault
  pub failed : (e : MainFault)
      → FailsToSay (IsPossible explain (read ++ g.more) (output ++ g.said) ended) ⊤ after now writes e
      → Converses explain read output had left ended reads before now flushed writes (Err e)
  failed WriteFailed (cut, text, (n, p), whole) = says (take n text) (Err WriteFailed) p (
    fed,
    cut,
    length (output ++ g.said) + n,
    (output ++ g.said) ++ text,
    sym (take-append-add (output ++ g.said) text n),
    whole,
  )
  failed (Refused f) (fine, is, kept, lacking) = record {
    more = g.more;
    consumed = g.consumed;
    said = g.said;
    appended = Appends-kept before after now g.said g.appended kept;
    outcome = ((fed, fine), inl (is, inr (s, far, held, g.live)));
  }
  failed (Text f) h = absurd h
  failed TooLong h = absurd h
  failed ReadFailed h = absurd h

  -- a session at the end of its input ends as the write of its last lines does
  pub at_the_end : (r : Result (Unit {0}) MainFault)
      → Finishes explain (read ++ g.more) (output ++ g.said) ended after now flushed writes r
      → Converses explain read output had left ended reads before now flushed writes r
  at_the_end (Ok done) h = over h.2 h.0 h.1 h.3 h.4
  at_the_end (Err e) h = failed e h

module _ {explain : Bool} {read output : List ℕ} {start : ℕ} {had left before after : Option (List ℕ)} {turn : ℕ}
    {ended : Bool} {s : State} {far : Progress} {held : List ℕ}
    (g : HasGone explain read output start had left before after turn ended s far held) {flushed : Bool}
    {reads writes : ℕ} (fine : writes ≡ 0) where
  -- a session that writes nothing more ends as what it read says
  says_no_more : (r : Result (Unit {0}) MainFault)
      → IsOutcome explain (read ++ g.more) (output ++ g.said) ended flushed reads writes r
      → Converses explain read output had left ended reads before after flushed writes r
  says_no_more r is =
      record { more = g.more; consumed = g.consumed; said = g.said; appended = g.appended; outcome = is }

  -- a session that can't read its next line ends with the fault of its reads
  pub no_line : (e : MainFault) → flushed ≡ true → FailsToRead (IsTooLong held) (IsOneLine held) reads e
      → Converses explain read output had left ended reads before after flushed writes (Err e)
  no_line TooLong all is = says_no_more (Err TooLong) ((is.0, fine), inr (s, far, held, g.live, inl is.1))
  no_line ReadFailed all is = says_no_more (Err ReadFailed) (is.0, fine, inr (all, s, far, held, g.live, is.1))
  no_line (Refused f) all is = says_no_more (Err (Refused f)) ((is.0, fine), inl (is.1, inr (s, far, held, g.live)))
  no_line (Text f) all is = absurd is
  no_line WriteFailed all is = absurd is

  -- a session after the largest count of turns ends as too long
  pub no_count : start ≤ length read → reads ≡ 0 → 2 ^ 64 ≤ turn + 1
      → Converses explain read output had left ended reads before after flushed writes (Err TooLong)
  no_count size fed many = says_no_more (Err TooLong) (
    (fed, fine),
    inr (s, far, held, g.live, inr (omega (arith, many, g.took, size, length-append read g.more))),
  )
