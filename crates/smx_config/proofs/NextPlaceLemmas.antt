-- The next place of a message is another one that the drivers have.
use Rattle.smx_config.proofs.Common.{◌≡◌, ℕ, Bool, true, false, ◌&&◌, eqb, List, [], ◌∷◌, Option, Some, None, refl}
use Rattle.smx_config.proofs.Common.{sym, ap, ◌∙◌, subst, arith, inl, inr, IsSome, list_any, cases_Bool, DriverSpec}
use Rattle.smx_config.proofs.Common.{Link, Place, StreamId, Configuration, same_place, same_stream, IsSound, IsKnown}
use Rattle.smx_config.proofs.Common.{first_message, is_full, next_open_place}
use Rattle.std.proofs.Common.{◌≢◌, cond, find}
use Rattle.std.specs.List.{Contains}
use Rattle.std.proofs.lemmas.Bool.{and_parts, eqb-true, ne_eqb}
use Rattle.std.proofs.lemmas.List.Elements.{Contains-append_right, recursion_from_All}
use Rattle.smx_types.specs.declared.link.Binding.{Binding}
use Rattle.smx_types.specs.declared.link.Route.{Route}
use Rattle.smx_types.specs.declared.stream.Side.{Side}
use Rattle.smx_types.specs.declared.stream.Side.TheVariants as side
use Rattle.smx_model.specs.DriverList.{is_mux}
use Rattle.smx_model.specs.Hangups.{is_hung}
use Rattle.smx_model.specs.Paths.{HasNoCycle}
use Rattle.smx_model.specs.Settling.{◌>>=◌, live_write_side, next_place, place_above, place_below}
use Rattle.smx_tables.proofs.AboveLemmas.{some_with_id, stream_is}
use Rattle.smx_tables.proofs.FoundLemmas.{bound, found_has, found_passes, some_is}

-- the two drivers of a link differ
drivers_differ : (links : List Link) (test : Link → Bool) (l : Link) → HasNoCycle links → find test links ≡ Some l
    → l.lower.driver ≢ l.ctl.driver
drivers_differ links test l none e same = none l.ctl.driver
    (record { path = l ∷ []; some = omega arith; leads = (contained test links l e, refl, same) }) where
      contained : (t : Link → Bool) (xs : List Link) (x : Link) → find t xs ≡ Some x → Contains xs x
      contained t [] x f = absurd cc
      contained t (y ∷ ys) x f = elim (cases_Bool (t y)) [
        | inl a ↦ let g : Some y ≡ Some x = rw a at f in (0, omega arith, some_is y x g)
        | inr b ↦ Contains-append_right (y ∷ []) ys x (contained t ys x (rw b at f))
      ]

-- the drivers have the next place, and it is of another driver
pub record IsNext (drivers : List DriverSpec) (p q : Place) : Type 0 where
  pub known : IsKnown drivers q.stream
  pub differ : p.stream.driver ≢ q.stream.driver

-- a place that is there unless a condition holds: if a place was found, it is this one, and the condition doesn't hold
pub open_is : (b : Bool) (p q : Place) → cond b None (Some p) ≡ Some q → (b ≡ false) × (p ≡ q)
open_is true p q e = absurd cc
open_is false p q e = (refl, some_is p q e)

-- the next place below a driver is one that the drivers have, and is of another driver
next_below : (drivers : List DriverSpec) (c : Configuration) (p : Place) (addr : ℕ) (q : Place) → IsSound drivers c
    → place_below c.links c.routes c.hungs p.stream.driver addr ≡ Some q → IsNext drivers p q
next_below drivers c p addr q h e =
    let r = bound (find (λ r. eqb r.driver p.stream.driver && eqb r.addr addr) c.routes)
    (λ r. find (λ k. eqb k.id r.id) c.links >>= (λ k. live_write_side c.hungs k.lower)) q e in
    let l = bound (find (λ k. eqb k.id r.0.id) c.links) (λ k. live_write_side c.hungs k.lower) q r.2 in
    let at = found_has (λ (x : Route). list_any (λ k. eqb k.id x.id && eqb k.ctl.driver x.driver) c.links ≡ true)
    (λ x. eqb x.driver p.stream.driver && eqb x.addr addr) c.routes r.0
    (recursion_from_All (λ (x : Route). list_any (λ k. eqb k.id x.id && eqb k.ctl.driver x.driver) c.links ≡ true)
    c.routes h.routes.lead) r.1 in
    let own = eqb-true r.0.driver p.stream.driver (and_parts _ _ at.0).0 in
    let upper = eqb-true l.0.ctl.driver r.0.driver
    (some_with_id (λ k. eqb k.ctl.driver r.0.driver) r.0.id c.links l.0 h.ids.rise (sym l.1) ∙ at.1) in
    let here = (open_is (is_hung c.hungs l.0.lower) (record { stream = l.0.lower; side = side.Write }) q l.2).1 in
    let apart = drivers_differ c.links (λ k. eqb k.id r.0.id) l.0 h.links.no_cycle l.1 in
    let low = found_has (λ (k : Link). IsKnown drivers k.lower) (λ k. eqb k.id r.0.id) c.links l.0
    (recursion_from_All (λ (k : Link). IsKnown drivers k.lower) c.links h.known.lowers) l.1 in
    subst (λ (x : Place). IsNext drivers p x) here
    (record { known = low.1; differ = λ same. apart (sym same ∙ sym (upper ∙ own)) })

-- the next place above a stream is one that the drivers have, and is of another driver
next_above : (drivers : List DriverSpec) (c : Configuration) (p : Place) (addr : ℕ) (q : Place) → IsSound drivers c
    → place_above c.links c.binds p.stream addr ≡ Some q → IsNext drivers p q
next_above drivers c p addr q h e =
    let l = bound (find (λ k. same_stream k.lower p.stream) c.links)
    (λ k. find (λ x. eqb x.driver k.ctl.driver && eqb x.addr addr)
    c.binds >>= (λ x. Some (record { stream = record { driver = x.driver; minor = x.minor }; side = side.Read }))) q
    e in
    let b = bound (find (λ x. eqb x.driver l.0.ctl.driver && eqb x.addr addr) c.binds)
    (λ x. Some (record { stream = record { driver = x.driver; minor = x.minor }; side = side.Read })) q l.2 in
    let at = found_has (λ (x : Binding). IsKnown drivers (record { driver = x.driver; minor = x.minor }))
    (λ x. eqb x.driver l.0.ctl.driver && eqb x.addr addr) c.binds b.0
    (recursion_from_All (λ (x : Binding). IsKnown drivers (record { driver = x.driver; minor = x.minor })) c.binds
    h.known.binds) b.1 in
    let upper = eqb-true b.0.driver l.0.ctl.driver (and_parts _ _ at.0).0 in
    let lower = ap (λ (s : StreamId). s.driver)
    (stream_is l.0.lower p.stream (found_passes (λ k. same_stream k.lower p.stream) c.links l.0 l.1)) in
    let here : record { stream = record { driver = b.0.driver; minor = b.0.minor }; side = side.Read } ≡ q =
    some_is (record { stream = record { driver = b.0.driver; minor = b.0.minor }; side = side.Read }) q b.2 in
    let apart = drivers_differ c.links (λ k. same_stream k.lower p.stream) l.0 h.links.no_cycle l.1 in
    subst (λ (x : Place). IsNext drivers p x) here
    (record { known = at.1; differ = λ same. apart (lower ∙ same ∙ upper) })

-- a value that an option has under a condition is its value
only_if : {X : Type 0} (b : Bool) (o : Option X) (x : X) → cond b o None ≡ Some x → o ≡ Some x
only_if true o x e = e
only_if false o x e = absurd cc

-- the next place on either side of a stream is one that the drivers have, and is of another driver
pub next_known : (drivers : List DriverSpec) (c : Configuration) (stream : StreamId) (s : Side) (addr : ℕ) (q : Place)
    → IsSound drivers c → next_place drivers c (record { stream = stream; side = s }) addr ≡ Some q
    → IsNext drivers (record { stream = stream; side = s }) q
next_known drivers c stream side.Write addr q h e = next_below drivers c (record { stream = stream; side = side.Write })
    addr q h (only_if (is_mux drivers stream.driver) (place_below c.links c.routes c.hungs stream.driver addr) q e)
next_known drivers c stream side.Read addr q h e =
    next_above drivers c (record { stream = stream; side = side.Read }) addr q h e

-- the properties of a place to which the first message of another place may move on
pub record IsOpenNext (drivers : List DriverSpec) (c : Configuration) (p q : Place) : Type 0 where
  pub some : IsSome (first_message c.flow p)
  pub known : IsKnown drivers q.stream
  pub differ : same_place p q ≡ false
  pub free : is_full c q ≡ false

-- the place to which a first message may move on is another place; the drivers have it, and it isn't full
pub open_next : (drivers : List DriverSpec) (c : Configuration) (p q : Place) → IsSound drivers c
    → next_open_place drivers c p ≡ Some q → IsOpenNext drivers c p q
open_next drivers c p q h e =
    let m = bound (first_message c.flow p)
    (λ m. next_place drivers c p m.addr >>= (λ r. cond (is_full c r) None (Some r))) q e in
    let n = bound (next_place drivers c p m.0.addr) (λ r. cond (is_full c r) None (Some r)) q m.2 in
    let o = open_is (is_full c n.0) n.0 q n.2 in
    let next = subst (λ (x : Place). IsNext drivers p x) o.1
    (next_known drivers c p.stream p.side m.0.addr n.0 h n.1) in
    record {
      some = rw m.1 refl;
      known = next.known;
      differ = rw (ne_eqb p.stream.driver q.stream.driver next.differ) refl;
      free = subst (λ (x : Place). is_full c x ≡ false) o.1 o.0;
    }
