-- A live session from bytes to bytes, by the stage at which it ends.
use Rattle.smx_live.proofs.Common.{◌≡◌, ℕ, ◌≤◌, Bool, false, List, [], ◌++◌, length, take, refl, inl, inr}
use Rattle.smx_live.proofs.Common.{Consumes-trans, Consumes, IsStartOf, State, MainFault, Refused, Text, TooLong}
use Rattle.smx_live.proofs.Common.{ReadFailed, WriteFailed, MAX_INPUT, FailsToRead, IsOutcome, IsEndlessTable}
use Rattle.smx_live.proofs.Common.{IsTable, IsUnfinished, table_text}
use Rattle.std.proofs.Common.{Option, Result, Err}
use Rattle.std.proofs.KnownBytes.{Appends-kept, Appends-nil, Appends-trans}
use Rattle.std.specs.Io.KnownBytes.{Appends}
use Rattle.smx_live.specs.LiveStages.{Begins, Converses, Opens}
use Rattle.smx_live.specs.LiveText.{LivesText}
use Rattle.smx_live.proofs.LiveLemmas.{begun}

module _ {explain : Bool} {had left : Option (List ℕ)} {ended : Bool} {reads : ℕ} (read : List ℕ)
    (consumed : Consumes had left read) {before : Option (List ℕ)} {flushed : Bool} {writes : ℕ} where
  -- a session that wrote nothing ends as what it read says
  silent : (r : Result (Unit {0}) MainFault) → IsOutcome explain read [] ended flushed reads writes r
      → LivesText explain had left ended reads before before flushed writes r
  silent r is =
      record { read = read; consumed = consumed; output = []; appended = Appends-nil before; outcome = is }

  -- a session whose table could not be read ends with the fault of its reads
  pub no_table : (e : MainFault) → writes ≡ 0 → FailsToRead (IsEndlessTable read) (IsUnfinished read) reads e
      → LivesText explain had left ended reads before before flushed writes (Err e)
  no_table TooLong fine is = silent (Err TooLong) ((is.0, fine), inl (refl, is.1))
  no_table ReadFailed fine is = silent (Err ReadFailed) (is.0, fine, inl (refl, is.1))
  no_table (Refused f) fine is = silent (Err (Refused f)) ((is.0, fine), inl (is.1, inl refl))
  no_table (Text f) fine is = absurd is
  no_table WriteFailed fine is = absurd is

  module _ (table held : List ℕ) (parts : read ≡ table ++ held) (over : IsTable ended table held)
      (fits : length table ≤ MAX_INPUT) (fed : reads ≡ 0) where
    -- no session begins
    pub no_session : (e : MainFault) → writes ≡ 0 → Begins table (Err e)
        → LivesText explain had left ended reads before before flushed writes (Err e)
    no_session (Text f) fine bad =
        silent (Err (Text f)) ((fed, fine), refl, bad.1, (table, held, parts, over, fits, bad.0))
    no_session (Refused f) fine (inl is) = silent (Err (Refused f)) ((fed, fine), inl (is.0, inl refl))
    no_session (Refused f) fine (inr bad) =
        silent (Err (Refused f)) ((fed, fine), inr (refl, (table, held, parts, over, fits, bad)))
    no_session TooLong fine bad = absurd bad
    no_session ReadFailed fine bad = absurd bad
    no_session WriteFailed fine bad = absurd bad

    -- its opening could not be written
    pub no_opening : (s : State) {after : Option (List ℕ)} (e : MainFault) → IsStartOf (table_text table) s
        → Opens s before after flushed writes (Err e)
        → LivesText explain had left ended reads before after flushed writes (Err e)
    no_opening s WriteFailed start (cut, text, (n, p), begins) = record {
      read = read;
      consumed = consumed;
      output = take n text;
      appended = p;
      outcome = (
        fed,
        cut,
        n,
        text,
        refl,
        inl (s, record { entries = 0; tracing = false }, held, begun parts over fits start begins),
      );
    }
    no_opening s {after} (Refused f) start h = record {
      read = read;
      consumed = consumed;
      output = [];
      appended = Appends-kept before before after [] (Appends-nil before) h.2;
      outcome = ((fed, h.0), inl (h.1, inl refl));
    }
    no_opening s (Text f) start h = absurd h
    no_opening s TooLong start h = absurd h
    no_opening s ReadFailed start h = absurd h

-- a session whose opening was written, and whose lines were answered, meets the clause from bytes to bytes
pub answered_all : {explain : Bool} {had mid left : Option (List ℕ)} {read : List ℕ} → Consumes had mid read
    → {before then_on after : Option (List ℕ)} {opening : List ℕ} → Appends before then_on opening
    → {ended flushed : Bool} {reads writes : ℕ} {r : Result (Unit {0}) MainFault}
    → Converses explain read opening mid left ended reads then_on after flushed writes r
    → LivesText explain had left ended reads before after flushed writes r
answered_all {had = had} {mid} {left} {read} consumed {before} {then_on} {after} {opening} begins c = record {
  read = read ++ c.more;
  consumed = Consumes-trans had mid left read c.more consumed c.consumed;
  output = opening ++ c.said;
  appended = Appends-trans before then_on after opening c.said begins c.appended;
  outcome = c.outcome;
}
