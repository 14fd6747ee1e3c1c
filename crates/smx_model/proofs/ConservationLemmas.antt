-- Each accepted message is delivered, dropped or queued.
use Rattle.smx_model.proofs.Common.{◌≡◌, ℕ, zero, suc, ◌+◌, ◌<◌, ◌≤◌, Bool, cond, eqb, List, [], ◌∷◌, ◌++◌, length}
use Rattle.smx_model.proofs.Common.{filter, Some, Ok, Err, refl, rules, ap, ◌∙◌, arith, range_with_len}
use Rattle.smx_model.proofs.Common.{Command, Entry, Reply, DriverSpec, Message, Place}
use Rattle.smx_model.proofs.Common.{outcome, step, after_outcome, done_outcome, Configuration, QueuedMessage, empty}
use Rattle.smx_model.proofs.Common.{is_at, queued_before, after_from, after, IsLegalFrom, IsLegal, delivered_by}
use Rattle.smx_model.proofs.Common.{dropped_by, taken_serials, with_inserted, without_first, Outcome, first_message}
use Rattle.smx_model.proofs.Common.{after_leaving, after_sweep, serials, after_settling_within, after_move}
use Rattle.smx_types.specs.declared.reply.Reply.TheVariants as reply
use Rattle.smx_model.specs.LawfulHistories.{taken_by, delivered_serials, dropped_serials, AreMessagesConserved}
use Rattle.smx_model.proofs.SettledLemmas.{moved_by, settled_by}
use Rattle.smx_model.proofs.CountLemmas.{times, times_append, times_gone, permuted}
use Rattle.smx_model.proofs.AcceptedLemmas.{of_rows, taken}
use Rattle.smx_model.proofs.OutcomeLemmas.{IfAccepted}

-- serials of a flow

-- one more message in the flow adds one to the count of its serial, and leaves the other counts
serials_placed : (n : ℕ) (hs : List QueuedMessage) (h : QueuedMessage)
    → times n (serials (with_inserted queued_before hs h)) ≡ cond (eqb h.message.serial n) 1 0 + times n (serials hs)
serials_placed n [] h = refl
serials_placed n (k ∷ hs) h = grind (arith, serials_placed n hs h)

-- a filtered flow has no serial more often than the flow
serials_filter : (n : ℕ) (test : QueuedMessage → Bool) (hs : List QueuedMessage)
    → times n (serials (filter test hs)) ≤ times n (serials hs)
serials_filter n test [] = omega arith
serials_filter n test (h ∷ hs) = grind (arith, serials_filter n test hs)

-- removing the first message of a place takes one from the count of its serial, and leaves the other counts
serials_front : (n : ℕ) (hs : List QueuedMessage) (p : Place) (m : Message) → first_message hs p ≡ Some m
    → times n (serials hs) ≡ cond (eqb m.serial n) 1 0 + times n (serials (without_first (is_at p) hs))
serials_front n [] p m e = cc
serials_front n (h ∷ hs) p m e = grind (arith, serials_front n hs p m)

-- the change from an old to a new configuration by a reply

-- each accepted or queued message is then delivered, dropped or queued, and serials are given from the next one on
pub record Goes (c d : Configuration) (r : Reply) : Type 0 where
  pub balance : (n : ℕ) → times n (taken_by r) + times n (serials c.flow)
      ≡ times n (delivered_by r) + (times n (dropped_by r) + times n (serials d.flow))
  pub numbered : taken_by r ≡ range_with_len c.next_serial (length (taken_by r))
  pub next : d.next_serial ≡ c.next_serial + length (taken_by r)

-- the queued messages have different serials, below the next one
pub record IsNumbered (c : Configuration) : Type 0 where
  pub once : (n : ℕ) → times n (serials c.flow) ≤ 1
  pub below : (n : ℕ) → c.next_serial ≤ n → times n (serials c.flow) ≡ 0

-- no serial is queued more often than before
record IsFewer (c d : Configuration) : Type 0 where
  each : (n : ℕ) → times n (serials d.flow) ≤ times n (serials c.flow)

-- after a sweep no serial is in the flow more often
fewer_swept : (n : ℕ) (drivers : List DriverSpec) (c : Configuration)
    → times n (serials (after_sweep drivers c).flow) ≤ times n (serials c.flow)
fewer_swept n drivers c = grind (arith, serials_filter)

-- a command that is done loses and duplicates no message, if queued messages have different serials, no serial is
-- queued more often before the sweep, and the next serial is unchanged
goes_done : (drivers : List DriverSpec) (c d : Configuration) → IsNumbered c → d.next_serial ≡ c.next_serial
    → IsFewer c d → IfAccepted (Goes c) (done_outcome drivers c d)
goes_done drivers c d h same fewer = record {
  holds = record {
    balance = λ n.
        omega (
          arith,
          times_gone n (serials c.flow) (serials (after_sweep drivers d).flow)
              (omega (arith, fewer_swept n drivers d, fewer.each n)) (h.once n),
        );
    numbered = refl;
    next = omega arith;
  };
}

-- if the flow and the next serial are unchanged and the reply names no message, none is lost or duplicated
goes_still : (c d : Configuration) (r : Reply) → d.flow ≡ c.flow → d.next_serial ≡ c.next_serial → taken_by r ≡ []
    → delivered_by r ≡ [] → dropped_by r ≡ [] → Goes c d r
goes_still c d r e same none given gone = record {
  balance = λ n. rw (e, none, given, gone) (omega arith);
  numbered = rw none refl;
  next = rw none (omega (arith, same));
}

-- if a message is accepted under the next serial, none is lost or duplicated
goes_took : (drivers : List DriverSpec) (c : Configuration) (p : Place) (addr : ℕ) (bytes : List ℕ)
    → Goes c (taken drivers c p addr bytes) (reply.Took c.next_serial)
goes_took drivers c p addr bytes = grind (arith, serials_placed)

-- if the first message of a place is delivered, none is lost or duplicated
goes_got : (drivers : List DriverSpec) (c : Configuration) (p : Place) (m : Message) → first_message c.flow p ≡ Some m
    → Goes c (after_leaving drivers c p) (reply.Got m.serial m.addr m.bytes)
goes_got drivers c p m e = grind (arith, serials_front)

-- an accepted command loses and duplicates no message, if queued messages have different serials
pub goes_accepted : (drivers : List DriverSpec) (c : Configuration) (process : ℕ) (k : Command) → IsNumbered c
    → IfAccepted (Goes c) (outcome drivers c process k)
goes_accepted drivers c process k h =
    search (of_rows, goes_still, goes_took, goes_got, goes_done, serials_filter, rules) depth 24

-- settling keeps the queued messages

-- a move leaves the same serials in the flow, each as often
pub moved_same : (n : ℕ) (drivers : List DriverSpec) (c : Configuration) (p : Place)
    → times n (serials (after_move drivers c p).flow) ≡ times n (serials c.flow)
moved_same n drivers c p = grind (arith, moved_by, times, serials_front, serials_placed)

-- a move doesn't change the next serial
pub moved_next : (drivers : List DriverSpec) (c : Configuration) (p : Place)
    → (after_move drivers c p).next_serial ≡ c.next_serial
moved_next drivers c p = moved_by (λ d. d.next_serial ≡ c.next_serial) drivers c p refl (λ q m e. refl)

-- the same serials are queued, each as often, and the next serial is unchanged
record KeepsSerials (c d : Configuration) : Type 0 where
  same : (n : ℕ) → times n (serials d.flow) ≡ times n (serials c.flow)
  next : d.next_serial ≡ c.next_serial

-- moves leave the same serials in the flow, each as often, and don't change the next serial
settled_keeps : (drivers : List DriverSpec) (n : ℕ) (c : Configuration)
    → KeepsSerials c (after_settling_within drivers n c)
settled_keeps drivers n c = settled_by (KeepsSerials c) drivers n c (record {
  each = λ d p r.
      record { same = λ n. moved_same n drivers d p ∙ r.same n; next = moved_next drivers d p ∙ r.next };
}) (record { same = λ n. refl; next = refl })

-- a step

-- a command loses and duplicates no message, if its accepted outcome loses and duplicates none
goes_finished : (drivers : List DriverSpec) (c : Configuration) (o : Outcome) → IfAccepted (Goes c) o
    → Goes c (after_outcome drivers c o).0 (after_outcome drivers c o).1
goes_finished drivers c (Ok x) k = grind (arith, settled_keeps)
goes_finished drivers c (Err f) k = record { balance = λ n. omega arith; numbered = refl; next = omega arith }

-- a step loses and duplicates no message, if queued messages have different serials
pub goes_step : (drivers : List DriverSpec) (c : Configuration) (process : ℕ) (k : Command) → IsNumbered c
    → Goes c (step drivers c process k).0 (step drivers c process k).1
goes_step drivers c process k h = grind (arith, goes_finished, goes_accepted)

-- a number below a is not among the numbers from a on
times_range_below : (n a k : ℕ) → n < a → times n (range_with_len a k) ≡ 0
times_range_below n a zero lt = refl
times_range_below n a (suc k) lt = grind (arith, times_range_below n (a + 1) k (omega arith))

-- a number from a + k on is not among the k numbers from a on
times_range_above : (n a k : ℕ) → a + k ≤ n → times n (range_with_len a k) ≡ 0
times_range_above n a zero le = refl
times_range_above n a (suc k) le = grind (arith, times_range_above n (a + 1) k (omega arith))

-- no number occurs twice among the k numbers from a on
times_range_once : (n a k : ℕ) → times n (range_with_len a k) ≤ 1
times_range_once n a zero = omega arith
times_range_once n a (suc k) = grind (arith, times_range_below, times_range_once n (a + 1) k)

-- the queued messages have lower serials, each once
pub numbered_goes : (c d : Configuration) (r : Reply) → IsNumbered c → Goes c d r → IsNumbered d
numbered_goes c d r h g = grind arith

-- the k numbers from a on, and then the m numbers from a + k on, are the k + m numbers from a on
range_join : (a k m : ℕ) → range_with_len a k ++ range_with_len (a + k) m ≡ range_with_len a (k + m)
range_join a zero m = grind arith
range_join a (suc k) m =
    let e : a + suc k ≡ (a + 1) + k = omega arith in
    let f : suc (k + m) ≡ suc k + m = omega arith in
    ap (λ (xs : List ℕ). a ∷ xs) (ap (λ (x : ℕ). range_with_len (a + 1) k ++ range_with_len x m) e
    ∙ range_join (a + 1) k m) ∙ ap (range_with_len a) f

-- over these entries each accepted or queued message is delivered, dropped or queued, and serials are given from the
-- next one on
record Ends (drivers : List DriverSpec) (c : Configuration) (es : List Entry) : Type 0 where
  balance : (n : ℕ) → times n (taken_serials es) + times n (serials c.flow) ≡ times n (delivered_serials es)
      + (times n (dropped_serials es) + times n (serials (after_from drivers c es).flow))
  numbered : taken_serials es ≡ range_with_len c.next_serial (length (taken_serials es))

-- entries that are legal from a configuration lose and duplicate no message, if queued messages have different serials
ends : (drivers : List DriverSpec) (c : Configuration) (es : List Entry) → IsNumbered c → IsLegalFrom drivers c es
    → Ends drivers c es
ends drivers c [] h legal = record { balance = λ n. omega arith; numbered = refl }
ends drivers c (e ∷ es) h legal =
    grind (arith, goes_step, ends drivers (step drivers c e.process e.command).0 es, numbered_goes, times_append)

-- no message is queued in the empty configuration, so queued messages have different serials
pub numbered_empty : IsNumbered empty
numbered_empty = record { once = λ n. omega arith; below = λ n le. refl }

-- a legal history gives accepted messages serials from 1 on
pub numbered_from_one : (drivers : List DriverSpec) (history : List Entry) → IsLegal drivers history
    → taken_serials history ≡ range_with_len 1 (length (taken_serials history))
numbered_from_one drivers history legal = (ends drivers empty history numbered_empty legal).numbered

-- a legal history loses and duplicates no message
pub conserving : (drivers : List DriverSpec) (history : List Entry) → IsLegal drivers history
    → AreMessagesConserved history (after drivers history)
conserving drivers history legal = grind (arith, ends, numbered_empty, permuted, times_append)
