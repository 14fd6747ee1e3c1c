-- Commands and moves that leave the next places of messages as they are, and the hops after them.
use Rattle.smx_config.proofs.Common.{◌≡◌, ℕ, ◌<◌, Bool, true, List, length, Option, None, Some, Ok, sym, ap, ◌∙◌}
use Rattle.smx_config.proofs.Common.{subst, arith, IsSome, false≢true, DriverSpec, Message, Reply, Place, StreamId}
use Rattle.smx_config.proofs.Common.{outcome, Configuration, first_message, next_of, after_move, places_of, IsAt}
use Rattle.smx_config.proofs.Common.{IsNextOf, AreHops}
use Rattle.std.proofs.Common.{get_or}
use Rattle.std.specs.Prelude.{IfSome}
use Rattle.smx_types.specs.declared.command.Command.{Command}
use Rattle.smx_types.specs.declared.command.Command.TheVariants as command
use Rattle.smx_model.specs.Commands.{done_outcome, read_outcome, receive_outcome, send_outcome}
use Rattle.smx_model.specs.Lookups.{live_stream}
use Rattle.smx_model.specs.Removal.{without_queues_at}
use Rattle.smx_model.specs.Settling.{next_place}
use Rattle.smx_model.specs.Swept.{IsSwept}
use Rattle.smx_model.proofs.IdleSweepLemmas.{swept_idle}
use Rattle.smx_model.proofs.WaitingLemmas.{next_is}
use Rattle.smx_tables.proofs.AcceptedLemmas.{accepted, bound}
use Rattle.smx_config.specs.declared.hops.Hop.{Hop}
use Rattle.smx_config.specs.declared.hops.Hops.{Hops}
use Rattle.smx_config.specs.Ways.{IsWay, KeepsWays, LeadsTo, hop_at, keeps_ways}
use Rattle.smx_config.proofs.PlaceNumberLemmas.{at_number}

-- ---- changes that keep the next places of messages

-- sending a message to a place
pub send_keeps : (drivers : List DriverSpec) (c : Configuration) (p : Place) (addr : ℕ) (bytes : List ℕ)
    (x : Configuration × Reply) → send_outcome drivers c p addr bytes ≡ Ok x → KeepsWays c x.0
send_keeps drivers c p addr bytes x e = grind (arith, bound, accepted)

-- taking a message from its place
pub receive_keeps : (drivers : List DriverSpec) (c : Configuration) (p : Place) (x : Configuration × Reply)
    → receive_outcome drivers c p ≡ Ok x → KeepsWays c x.0
receive_keeps drivers c p x e = grind (arith, bound, accepted)

-- reading at a stream
pub read_keeps : (drivers : List DriverSpec) (c : Configuration) (s : StreamId) (x : Configuration × Reply)
    → read_outcome drivers c s ≡ Ok x → KeepsWays c x.0
read_keeps drivers c s x e = grind arith

-- dropping messages, if there is nothing to sweep
pub drop_keeps : (drivers : List DriverSpec) (c : Configuration) (goes : Place → Bool) (x : Configuration × Reply)
    → IsSwept drivers c → done_outcome drivers c (without_queues_at c goes) ≡ Ok x → KeepsWays c x.0
drop_keeps drivers c goes x h e = grind (arith, accepted _ x e, swept_idle drivers c h)

-- a command that only adds or removes messages
pub ways_kept : (drivers : List DriverSpec) (c d : Configuration) (process : ℕ) (k : Command) (r : Reply)
    → keeps_ways k ≡ true → IsSwept drivers c → outcome drivers c process k ≡ Ok (d, r) → KeepsWays c d
ways_kept drivers c d process (command.Write fd addr bytes) r t h e = grind (arith, bound, send_keeps)
ways_kept drivers c d process (command.Read fd) r t h e = grind (arith, bound, read_keeps)
ways_kept drivers c d process (command.Flush fd w) r t h e =
    let s = bound (live_stream c process fd) _ (d, r) e in drop_keeps drivers c _ (d, r) h s.2
ways_kept drivers c d process (command.Inject name minor addr bytes) r t h e = grind (arith, bound, send_keeps)
ways_kept drivers c d process (command.Transmit name minor) r t h e = grind (arith, bound, receive_keeps)
ways_kept drivers c d process k r t h e = absurd (false≢true t)

-- moving a message
pub move_keeps : (drivers : List DriverSpec) (c : Configuration) (p : Place) → KeepsWays c (after_move drivers c p)
move_keeps drivers c p = grind arith

-- ---- hops

-- such a change keeps the next place of each message
pub same_way : (drivers : List DriverSpec) (c d : Configuration) (p : Place) (addr : ℕ) → KeepsWays c d
    → next_place drivers d p addr ≡ next_place drivers c p addr
same_way drivers c d p addr k = grind (arith, next_is drivers d p addr, next_is drivers c p addr)

-- such a change keeps the hops right
pub hops_kept : (drivers : List DriverSpec) (c d : Configuration) (h : Hops) → KeepsWays c d → AreHops drivers c h
    → AreHops drivers d h
hops_kept drivers c d h k a = record {
  many = a.many;
  young = a.young;
  right = λ i p there age last.
      let way = a.right i p there age last in
      record {
        place = way.place;
        there = way.there;
        next = same_way drivers c d p (hop_at h i).addr k ∙ way.next;
      };
}

-- copies of hops are right if the hops are
pub hops_copied : (drivers : List DriverSpec) (c : Configuration) (old new : Hops) → new.hops.items ≡ old.hops.items
    → new.age ≡ old.age → AreHops drivers c old → AreHops drivers c new
hops_copied drivers c old new same age a = record {
  many = ap (λ (xs : List Hop). length xs) same ∙ a.many;
  young = λ i. let y = a.young i in let e = ap (λ (x : Hop). x.age) (at i) in omega (arith, y, e, age);
  right = λ i p there now last. subst (λ (x : Hop). LeadsTo drivers c p x.addr x.to) (sym (at i))
      (a.right i p there (ap (λ (x : Hop). x.age) (sym (at i)) ∙ now ∙ age) (omega (arith, last, age)));
} where
  at : (i : ℕ) → hop_at new i ≡ hop_at old i
  at i = ap (λ (xs : List Hop). get_or xs i (record { addr = 0; to = 0; age = 0 })) same

-- ---- the number of a next place

-- the number that was found for a next place leads there
pub way_to : (drivers : List DriverSpec) (c : Configuration) (p q : Place) (addr : ℕ) (r : Option ℕ)
    → next_place drivers c p addr ≡ Some q → IsSome r → IfSome r (λ n. IsAt drivers n q) → IsWay drivers c p addr r
way_to drivers c p q addr None next some found = absurd cc
way_to drivers c p q addr (Some n) next some found = record { place = q; there = found; next = next }

-- the next place of messages with the address of the first message is the next place of the first message
pub way_of_first : (drivers : List DriverSpec) (c : Configuration) (p : Place) (m : Message) (r : Option ℕ)
    → first_message c.flow p ≡ Some m → IsWay drivers c p m.addr r → IsNextOf drivers c p r
way_of_first drivers c p m None first way = ap (next_of drivers c p) first ∙ way
way_of_first drivers c p m (Some n) first way = grind arith

-- a place to which messages go next has a number
pub next_number : (drivers : List DriverSpec) (c : Configuration) (p : Place) (r : Option ℕ)
    → IsNextOf drivers c p r → IfSome r (λ n. n < length (places_of drivers))
next_number drivers c p None way = tt
next_number drivers c p (Some n) way = at_number drivers n way.place way.there
