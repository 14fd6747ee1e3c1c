-- A command that is done with no message dropped frees no place.
use Rattle.smx_model.proofs.Common.{◌≡◌, ℕ, Bool, true, ◌&&◌, not, List, [], ◌∷◌, filter, arith, refl, sym, ap, ◌∙◌}
use Rattle.smx_model.proofs.Common.{IfOk, AllPairs, and_parts, Command, DriverSpec, Link}
use Rattle.smx_model.proofs.Common.{Reply, Place, done_outcome, outcome, Configuration, QueuedMessage, FreesOnly}
use Rattle.smx_model.proofs.Common.{HaveFullPlacesMessages, in_rising_order, is_full, after_sweep, first_message}
use Rattle.smx_model.proofs.Common.{serials, serials_that_left, without_links, without_queues_at, nowhere, inl}
use Rattle.smx_types.specs.declared.reply.Reply.TheVariants as reply
use Rattle.smx_model.specs.KeptConfigurations.{AreSerialsSound}
use Rattle.smx_model.proofs.AcceptedLemmas.{of_rows}
use Rattle.smx_model.proofs.CountLemmas.{times, times_rising}
use Rattle.smx_model.proofs.FreedPlaceLemmas.{KeepsOrEmpties, emptied_keeps, keeps_then, never_freed, removed_keeps}
use Rattle.smx_model.proofs.FreedPlaceLemmas.{swept_keeps}
use Rattle.smx_model.proofs.OutcomeLemmas.{IfAccepted, if_accepted}
use Rattle.smx_model.proofs.QueueLemmas.{gone_is}

-- ---- a flow that no serial has left

-- the new flow is a filtered old one
record IsPart (old new : List QueuedMessage) : Type 0 where
  keep : QueuedMessage → Bool
  is : new ≡ filter keep old

-- a test that all messages pass keeps all
all_left : (hs : List QueuedMessage) → filter (λ h. true) hs ≡ hs
all_left [] = refl
all_left (h ∷ hs) = ap (λ (ks : List QueuedMessage). h ∷ ks) (all_left hs)

-- two filters in turn are one filter by both tests
two_left : (f g : QueuedMessage → Bool) (hs : List QueuedMessage)
    → filter g (filter f hs) ≡ filter (λ h. f h && g h) hs
two_left f g [] = refl
two_left f g (h ∷ hs) = grind (arith, two_left f g hs)

-- an unchanged flow is a part of itself
same_part : (old new : List QueuedMessage) → new ≡ old → IsPart old new
same_part old new e = record { keep = λ h. true; is = e ∙ sym (all_left old) }

-- if no message fails the test, all messages pass it
none_out : (keep : QueuedMessage → Bool) (hs : List QueuedMessage) → filter (λ h. not (keep h)) hs ≡ []
    → filter keep hs ≡ hs
none_out keep [] e = refl
none_out keep (h ∷ hs) e = grind (arith, none_out keep hs)

-- a list of numbers is empty if it is empty after sorting
none_rising : (ns : List ℕ) → in_rising_order ns ≡ [] → ns ≡ []
none_rising [] e = refl
none_rising (n ∷ ns) e = grind (arith, times_rising n (n ∷ ns), times n)

-- a flow without serials has no messages
no_serials : (hs : List QueuedMessage) → serials hs ≡ [] → hs ≡ []
no_serials [] e = refl
no_serials (h ∷ hs) e = absurd cc

-- if no serial left, and each occurs once, a part is the whole
whole : (old new : List QueuedMessage) → AllPairs (λ m n. m ≡ n → ⊥) (serials old) → IsPart old new
    → serials_that_left old new ≡ [] → new ≡ old
whole old new apart h none =
    let left : serials_that_left old (filter h.keep old) ≡ [] = ap (serials_that_left old) (sym h.is) ∙ none in
    let out = no_serials (filter (λ x. not (h.keep x)) old)
    (none_rising _ (sym (gone_is old h.keep apart) ∙ left)) in
    h.is ∙ none_out h.keep old out

-- ---- the rows of the command table

-- a sweep gives a part of the flow
swept_part : (drivers : List DriverSpec) (old : List QueuedMessage) (c : Configuration) → IsPart old c.flow
    → IsPart old (after_sweep drivers c).flow
swept_part drivers old c h = grind (arith, two_left)

-- a command that names no dropped message frees no place
abbrev FreesUndropped : Configuration → Configuration → Reply → Type 0
FreesUndropped c d r = r ≡ reply.Done [] → FreesOnly c d nowhere

-- if the flow is unchanged, and each place is as full as before or empty, no place that had messages is freed
none_freed : (c d : Configuration) → HaveFullPlacesMessages c → KeepsOrEmpties c d → d.flow ≡ c.flow
    → FreesOnly c d nowhere
none_freed c d some h same p freed = grind (arith, h p, never_freed, some p (and_parts (is_full c p) _ freed).0)

-- a change that keeps a part of the messages, and keeps or empties each place, frees no place if none was dropped
done_undropped : (drivers : List DriverSpec) (c new : Configuration) → AreSerialsSound c → HaveFullPlacesMessages c
    → IsPart c.flow new.flow → KeepsOrEmpties c new
    → IfAccepted (FreesUndropped c) (done_outcome drivers c new)
done_undropped drivers c new sound some part keeps = record {
  holds = λ e. none_freed c (after_sweep drivers new) some
      (keeps_then c new (after_sweep drivers new) keeps (swept_keeps drivers new))
      (whole c.flow (after_sweep drivers new).flow sound.apart (swept_part drivers c.flow new part) (named _ e));
} where
  named : (ns : List ℕ) → reply.Done ns ≡ reply.Done [] → ns ≡ []
  named ns e = cc

-- a change that keeps the messages and the full marks frees no place
still_undropped : (drivers : List DriverSpec) (c new : Configuration) → AreSerialsSound c → HaveFullPlacesMessages c
    → new.flow ≡ c.flow → new.fulls ≡ c.fulls → IfAccepted (FreesUndropped c) (done_outcome drivers c new)
still_undropped drivers c new sound some flow fulls = done_undropped drivers c new sound some
    (same_part c.flow new.flow flow) (λ q. inl (
      ap (λ (ps : List Place). is_full (record c { fulls = ps }) q) fulls,
      ap (λ (hs : List QueuedMessage). first_message hs q) flow,
    ))

-- the same of the removal of links
removed_undropped : (drivers : List DriverSpec) (c : Configuration) (goes : Link → Bool) → AreSerialsSound c
    → HaveFullPlacesMessages c → IfAccepted (FreesUndropped c) (done_outcome drivers c (without_links c goes))
removed_undropped drivers c goes sound some = done_undropped drivers c (without_links c goes) sound some
    (record { keep = _; is = refl }) (removed_keeps c goes)

-- the same of a flush of places
flushed_undropped : (drivers : List DriverSpec) (c : Configuration) (goes : Place → Bool) → AreSerialsSound c
    → HaveFullPlacesMessages c → IfAccepted (FreesUndropped c) (done_outcome drivers c (without_queues_at c goes))
flushed_undropped drivers c goes sound some = done_undropped drivers c (without_queues_at c goes) sound some
    (record { keep = _; is = refl }) (emptied_keeps c (without_queues_at c goes) goes refl refl)

-- an accepted command that is done with no message dropped frees no place
undropped : (drivers : List DriverSpec) (c : Configuration) (process : ℕ) (k : Command) → AreSerialsSound c
    → HaveFullPlacesMessages c → IfAccepted (FreesUndropped c) (outcome drivers c process k)
undropped drivers c process k sound some = of_rows (FreesUndropped c) drivers c process k record {
  clone = λ name n minor fd a b d e. absurd cc;
  minor = λ name n minor fd a b d e. absurd cc;
  dup = λ old fd s a b e. absurd cc;
  close = λ fd is keep. still_undropped drivers c (record c { fds = filter keep c.fds }) sound some refl refl;
  exit = λ is keep. still_undropped drivers c (record c { fds = filter keep c.fds }) sound some refl refl;
  link = λ fd arg upper lower t a b d f g e. absurd cc;
  unlink = λ fd w is goes. removed_undropped drivers c goes sound some;
  punlink = λ fd w is goes. removed_undropped drivers c goes sound some;
  bind = λ fd addr s a b. still_undropped drivers c _ sound some refl refl;
  unbind = λ fd is keep. still_undropped drivers c _ sound some refl refl;
  route = λ fd addr id is s a b. still_undropped drivers c _ sound some refl refl;
  unroute = λ fd addr is keep. still_undropped drivers c _ sound some refl refl;
  write = λ fd addr bytes is s a b e. absurd cc;
  read = λ fd s m a b e. absurd cc;
  eof = λ e. absurd cc;
  flush = λ fd w is goes. flushed_undropped drivers c goes sound some;
  inject = λ name minor addr bytes is s a b e. absurd cc;
  transmit = λ name minor s m a b e. absurd cc;
  hangup = λ name minor is s a. still_undropped drivers c _ sound some refl refl;
}

-- the same of an accepted outcome
pub undropped_if : (drivers : List DriverSpec) (c : Configuration) (process : ℕ) (k : Command) → AreSerialsSound c
    → HaveFullPlacesMessages c
    → IfOk (outcome drivers c process k) (λ x. x.1 ≡ reply.Done [] → FreesOnly c x.0 nowhere)
undropped_if drivers c process k sound some = grind (arith, if_accepted, undropped)
