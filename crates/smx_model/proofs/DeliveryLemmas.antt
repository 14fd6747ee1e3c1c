-- Messages keep their serial, address and bytes from acceptance to delivery.
use Rattle.smx_model.proofs.Common.{◌≡◌, ◌⊎◌, ℕ, Bool, List, [], ◌∷◌, ◌++◌, Some, Ok, Err, refl, rules}
use Rattle.smx_model.proofs.Common.{subst, inl, inr, All, Command, Entry, DriverSpec, Message, Reply, Place}
use Rattle.smx_model.proofs.Common.{outcome, step, after_outcome, done_outcome, Configuration, QueuedMessage, empty}
use Rattle.smx_model.proofs.Common.{queued_before, after, after_from, IsLegal, IsLegalFrom, without_first}
use Rattle.smx_model.proofs.Common.{Outcome, first_message, after_leaving, delivered_by, IsTakenIn, Sends}
use Rattle.smx_model.proofs.Common.{after_settling, AllByRecursion, All-from_recursion, arith}
use Rattle.smx_types.specs.declared.command.Command.TheVariants as command
use Rattle.smx_types.specs.declared.reply.Reply.TheVariants as reply
use Rattle.smx_model.proofs.SettledLemmas.{MovesKeep, moved_by, settled_by}
use Rattle.smx_model.proofs.EachLemmas.{each_filter, each_map, each_placed}
use Rattle.smx_model.proofs.MemberLemmas.{is_first, is_later}
use Rattle.smx_model.proofs.AcceptedLemmas.{of_rows, taken}
use Rattle.smx_model.proofs.OutcomeLemmas.{IfAccepted}

-- P holds of each queued message
abbrev OfEach : (Message → Type 0) → List QueuedMessage → Type 0
OfEach P hs = AllByRecursion (λ h. P h.message) hs

-- a property of all messages of a flow holds of the first one at a place
first_has : (P : Message → Type 0) (hs : List QueuedMessage) (p : Place) (m : Message) → first_message hs p ≡ Some m
    → OfEach P hs → P m
first_has P [] p m e h = cc
first_has P (k ∷ ks) p m e h = grind (arith, first_has P ks p m)

-- a property of all messages of a flow holds of those without the first that passes a test
rest_has : (P : Message → Type 0) (test : QueuedMessage → Bool) (hs : List QueuedMessage) → OfEach P hs
    → OfEach P (without_first test hs)
rest_has P test [] h = tt
rest_has P test (k ∷ ks) h = grind (arith, rest_has P test ks h.1)

-- the messages that a command leaves and delivers

-- each remaining message was queued before, so that P holds of it, or this command accepted it under the serial of
-- its reply; a delivered message was queued before
pub record Carries (P : Message → Type 0) (k : Command) (d : Configuration) (r : Reply) : Type 0 where
  pub flow : OfEach (λ m. P m ⊎ ((r ≡ reply.Took m.serial) × Sends k m.addr m.bytes)) d.flow
  pub got : (m : Message) → r ≡ reply.Got m.serial m.addr m.bytes → P m

-- messages of which P holds were queued before, so they are among those that were queued or were accepted
each_was_there : (P : Message → Type 0) (k : Command) (r : Reply) (hs : List QueuedMessage) → OfEach P hs
    → OfEach (λ m. P m ⊎ ((r ≡ reply.Took m.serial) × Sends k m.addr m.bytes)) hs
each_was_there P k r hs h = each_map _ _ hs (λ x p. inl p) h

-- if all remaining messages were queued before, and the reply delivers none, no message is new
carries_still : (P : Message → Type 0) (k : Command) (d : Configuration) (r : Reply) → OfEach P d.flow
    → delivered_by r ≡ [] → Carries P k d r
carries_still P k d r h none = grind (arith, each_was_there P k r d.flow h)

-- if all messages before a sweep were queued before, so were those after it, and none is delivered
carries_done : (P : Message → Type 0) (k : Command) (drivers : List DriverSpec) (c d : Configuration) → OfEach P d.flow
    → IfAccepted (Carries P k) (done_outcome drivers c d)
carries_done P k drivers c d h = grind (arith, each_was_there, each_filter)

-- a message accepted under the next serial has the address and the bytes that were sent, and all others
-- were queued before
carries_took : (P : Message → Type 0) (k : Command) (drivers : List DriverSpec) (c : Configuration) (p : Place)
    (addr : ℕ) (bytes : List ℕ) → Sends k addr bytes → OfEach P c.flow
    → Carries P k (taken drivers c p addr bytes) (reply.Took c.next_serial)
carries_took P k drivers c p addr bytes sends h = record {
  flow = each_placed _ queued_before c.flow
      (record { place = p; message = record { serial = c.next_serial; addr = addr; bytes = bytes } })
      (inr (refl, sends)) (each_was_there P k (reply.Took c.next_serial) c.flow h);
  got = λ m e. cc;
}

-- if the first message of a place is delivered, it was queued before, and so were all remaining ones
carries_got : (P : Message → Type 0) (k : Command) (drivers : List DriverSpec) (c : Configuration) (p : Place)
    (m : Message) → first_message c.flow p ≡ Some m → OfEach P c.flow
    → Carries P k (after_leaving drivers c p) (reply.Got m.serial m.addr m.bytes)
carries_got P k drivers c p m e h = grind (arith, each_was_there, rest_has, first_has)

-- an accepted command leaves messages that were queued before or that it accepted, and delivers one that
-- was queued before
carries_accepted : (P : Message → Type 0) (drivers : List DriverSpec) (c : Configuration) (process : ℕ) (k : Command)
    → OfEach P c.flow → IfAccepted (Carries P k) (outcome drivers c process k)
carries_accepted P drivers c process k h = search (
  of_rows,
  carries_still,
  carries_took,
  carries_got,
  carries_done,
  each_filter,
  written,
  injected,
  rules,
) depth 24 where
  written : (fd addr : ℕ) (bytes : List ℕ) → k ≡ command.Write fd addr bytes → Sends k addr bytes
  written fd addr bytes e = inl (fd, e)

  injected : (name : List ℕ) (minor addr : ℕ) (bytes : List ℕ) → k ≡ command.Inject name minor addr bytes
      → Sends k addr bytes
  injected name minor addr bytes e = inr (name, minor, e)

-- moves and settling keep messages

-- a property of all messages of a flow holds of all after a move
moved_has : (P : Message → Type 0) (drivers : List DriverSpec) → MovesKeep (λ d. OfEach P d.flow) drivers
moved_has P drivers = grind (arith, moved_by, each_placed, first_has, rest_has)

-- a step

-- a command leaves messages that were queued before or that it accepted, and delivers one that was queued before, if
-- its accepted outcome does
carries_finished : (P : Message → Type 0) (drivers : List DriverSpec) (c : Configuration) (k : Command) (o : Outcome)
    → OfEach P c.flow → IfAccepted (Carries P k) o
    → Carries P k (after_outcome drivers c o).0 (after_outcome drivers c o).1
carries_finished P drivers c k (Ok x) h m = record { flow = settled; got = m.holds.got } where
  Q : Message → Type 0
  Q m = P m ⊎ ((x.1 ≡ reply.Took m.serial) × Sends k m.addr m.bytes)

  settled : OfEach Q (after_settling drivers x.0).flow
  settled = settled_by (λ d. OfEach Q d.flow) drivers _ x.0 (moved_has Q drivers) m.holds.flow
carries_finished P drivers c k (Err f) h m = grind (arith, each_was_there P k (reply.Fault f) c.flow h)

-- P holds of the message, or this entry accepted it
abbrev Known : (Message → Type 0) → Entry → Message → Type 0
Known P e m = P m ⊎ ((e.reply ≡ reply.Took m.serial) × Sends e.command m.addr m.bytes)

-- a step with the reply of an entry leaves messages that were queued before or that the entry accepted, and delivers
-- one that was queued before
carries_step : (P : Message → Type 0) (drivers : List DriverSpec) (c : Configuration) (e : Entry)
    → (step drivers c e.process e.command).1 ≡ e.reply → OfEach P c.flow
    → Carries P e.command (step drivers c e.process e.command).0 e.reply
carries_step P drivers c e is h = subst (Carries P e.command (step drivers c e.process e.command).0) is
    (carries_finished P drivers c e.command (outcome drivers c e.process e.command) h
    (carries_accepted P drivers c e.process e.command h))

-- a history

-- a message that was queued before, or that an entry or later ones accepted, was queued before, or all these entries
-- together accepted it
known_or_taken_in : (P : Message → Type 0) (e : Entry) (es : List Entry) (m : Message) → Known P e m ⊎ IsTakenIn es m
    → P m ⊎ IsTakenIn (e ∷ es) m
known_or_taken_in P e es m (inl (inl p)) = inl p
known_or_taken_in P e es m (inl (inr k)) = inr (e, is_first e es, k.0, k.1)
known_or_taken_in P e es m (inr k) = inr (k.0, is_later k.0 e es k.1, k.2, k.3)

-- a message that an entry of a legal history delivers was queued at first, or an earlier entry accepted it
got_from : (P : Message → Type 0) (drivers : List DriverSpec) (c : Configuration) (early late : List Entry) (e : Entry)
    (m : Message) → OfEach P c.flow → IsLegalFrom drivers c (early ++ e ∷ late)
    → e.reply ≡ reply.Got m.serial m.addr m.bytes → P m ⊎ IsTakenIn early m
got_from P drivers c [] late e m h legal is = inl ((carries_step P drivers c e legal.0 h).got m is)
got_from P drivers c (x ∷ xs) late e m h legal is =
    known_or_taken_in P x xs m (got_from (Known P x) drivers (step drivers c x.process x.command).0 xs late e m
    (carries_step P drivers c x legal.0 h).flow legal.1 is)

-- a delivered message was accepted before, with the same serial, address and bytes
pub arrive_whole : (drivers : List DriverSpec) (early late : List Entry) (e : Entry) (serial addr : ℕ) (bytes : List ℕ)
    → IsLegal drivers (early ++ e ∷ late) → e.reply ≡ reply.Got serial addr bytes
    → IsTakenIn early (record { serial = serial; addr = addr; bytes = bytes })
arrive_whole drivers early late e serial addr bytes legal is =
    elim (got_from (λ m. ⊥) drivers empty early late e
    (record { serial = serial; addr = addr; bytes = bytes }) tt legal is) [ inl none ↦ absurd none | inr k ↦ k ]

-- a message that is queued after a legal history was queued at first, or an entry accepted it
queued_from : (P : Message → Type 0) (drivers : List DriverSpec) (c : Configuration) (es : List Entry) → OfEach P c.flow
    → IsLegalFrom drivers c es → OfEach (λ m. P m ⊎ IsTakenIn es m) (after_from drivers c es).flow
queued_from P drivers c [] h legal = each_map _ _ c.flow (λ x p. inl p) h
queued_from P drivers c (e ∷ es) h legal = each_map _ _ _ (λ x k. known_or_taken_in P e es x.message k)
    (queued_from (Known P e) drivers (step drivers c e.process e.command).0 es
    (carries_step P drivers c e legal.0 h).flow legal.1)

-- a message that is queued after a legal history was accepted by it, with the same serial, address and bytes
pub stay_whole : (drivers : List DriverSpec) (history : List Entry) → IsLegal drivers history
    → All (λ h. IsTakenIn history h.message) (after drivers history).flow
stay_whole drivers history legal = All-from_recursion (λ h. IsTakenIn history h.message) (after drivers history).flow
    (each_map (λ h. ⊥ ⊎ IsTakenIn history h.message) (λ h. IsTakenIn history h.message) (after drivers history).flow
    (λ h k. elim k [ inl none ↦ absurd none | inr t ↦ t ]) (queued_from (λ m. ⊥) drivers empty history tt legal))
