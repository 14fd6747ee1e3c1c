-- The lists of a view rise, and the serials of its messages are apart.
use Rattle.smx_trace.proofs.Common.{◌≢◌, ◌+◌, ◌<◌, Bool, true, ◌||◌, eqb, Option, Result, refl, ap, arith}
use Rattle.smx_trace.proofs.Common.{AllByRecursion, nat_lt, nat_tests, DriverSpec, Place, ConfigView, Configuration}
use Rattle.smx_trace.proofs.Common.{QueuedMessage, IsDriverList, view_of_bind, view_of_fd, view_of_full, view_of_hung}
use Rattle.smx_trace.proofs.Common.{view_of_link, view_of_message, view_of_route, is_before}
use Rattle.std.proofs.Common.{◌≡◌, ℕ, ◌*◌, ◌&&◌, List, [], ◌∷◌, length, map}
use Rattle.std.specs.Option.{ok_or}
use Rattle.std.specs.Prelude.{Ok, Err}
use Rattle.std.proofs.lemmas.List.Elements.{recursion_from_All}
use Rattle.smx_types.specs.declared.link.Binding.{Binding}
use Rattle.smx_types.specs.declared.link.Route.{Route}
use Rattle.smx_types.specs.declared.reply.Fault.{Fault}
use Rattle.smx_types.specs.declared.reply.Fault.TheVariants.{NoDriver}
use Rattle.smx_types.specs.declared.stream.Side.{Side}
use Rattle.smx_types.specs.declared.stream.Side.TheVariants as side
use Rattle.smx_model.specs.Configuration.{bind_before, fd_before, pair_before, place_before, route_before}
use Rattle.smx_model.specs.Configuration.{side_number, stream_before}
use Rattle.smx_model.specs.DriverList.{name_of}
use Rattle.smx_model.specs.KnownStreams.{IsKnown}
use Rattle.smx_model.specs.Ordered.{AllLater, IsRising}
use Rattle.smx_model.specs.Removal.{serials}
use Rattle.smx_model.proofs.EachLemmas.{later_pairs}
use Rattle.smx_tables.proofs.DriverNameLemmas.{found_by_name}
use Rattle.smx_trace.specs.Ranks.{IsRanked, bind_rank, fd_rank, full_rank, hung_rank, link_rank, number_of}
use Rattle.smx_trace.specs.Ranks.{route_rank}
use Rattle.smx_trace.specs.Serials.{AreSerialsApart}
use Rattle.smx_trace.specs.ShownViews.{IsShown}

-- the number of a driver that is known
number_is : (drivers : List DriverSpec) (n : ℕ) → IsDriverList drivers → n < length drivers
    → number_of drivers (name_of drivers n) ≡ n
number_is drivers n can lt =
    let Number : Result ℕ Fault → ℕ = λ r. elim r [ Ok k ↦ k | Err f ↦ 0 ] in
    ap (λ (o : Option ℕ). Number (ok_or o NoDriver)) (found_by_name drivers n can lt)

-- a side has one of two numbers
side_small : (s : Side) → side_number s < 2
side_small side.Write = omega arith
side_small side.Read = omega arith

-- numbers in order stay so when each takes a place of two with the next one
pairs_ranked : (d m s e n t : ℕ) → s < 2 → t < 2
    → (pair_before d m e n || ((eqb d e && eqb m n) && nat_lt s t)) ≡ true
    → pair_before d (2 * m + s) e (2 * n + t) ≡ true
pairs_ranked d m s e n t small small' h = grind (arith, nat_tests)

-- ids in order, as pairs
ids_ranked : (a b : ℕ) → nat_lt a b ≡ true → pair_before a 0 b 0 ≡ true
ids_ranked a b h = rw h refl

module _ {X Y : Type 0} (rank : Y → ℕ × ℕ) (before : X → X → Bool) (line : X → Y) (P : X → Type 0)
    (ranks : (x y : X) → P x → P y → before x y ≡ true → is_before rank (line x) (line y) ≡ true) where
  -- what comes after an element comes after it by rank
  ranked_after : (x : X) (ys : List X) → P x → AllByRecursion P ys → AllByRecursion (λ y. before x y ≡ true) ys
      → AllByRecursion (λ z. is_before rank (line x) z ≡ true) (map line ys)
  ranked_after x [] p ps h = tt
  ranked_after x (y ∷ ys) p ps h = (ranks x y p ps.0 h.0, ranked_after x ys p ps.1 h.1)

  -- the lines of a rising list rise by rank
  ranked_lines : (xs : List X) → AllByRecursion P xs → IsRising before xs → IsRanked rank (map line xs)
  ranked_lines [] ps h = tt
  ranked_lines (x ∷ xs) ps h = (ranked_after x xs ps.0 ps.1 h.0, ranked_lines xs ps.1 h.1)

-- any property that always holds
always : {X : Type 0} (xs : List X) → AllByRecursion (λ x. Unit {0}) xs
always [] = tt
always (x ∷ xs) = (tt, always xs)

module _ (drivers : List DriverSpec) (v : ConfigView) (s : IsShown drivers v) where
  -- the configuration that is shown
  abbrev c : Configuration
  c = s.configuration

  -- descriptors
  pub fds_ranked : IsRanked (fd_rank drivers) v.fds
  fds_ranked = rw s.is (ranked_lines (fd_rank drivers) fd_before (view_of_fd drivers) (λ d. Unit {0})
      (λ x y p q h. h) c.fds (always c.fds) s.kept.sound.ordered.fds)

  -- links
  pub links_ranked : IsRanked (link_rank drivers) v.links
  links_ranked = rw s.is (ranked_lines (link_rank drivers) (λ l k. nat_lt l.id k.id) (view_of_link drivers)
      (λ l. Unit {0}) (λ x y p q h. ids_ranked x.id y.id h) c.links (always c.links) s.kept.sound.ids.rise)

  -- bindings
  pub binds_ranked : IsRanked (bind_rank drivers) v.binds
  binds_ranked =
      let Known : Binding → Type 0 = λ b. IsKnown drivers (record { driver = b.driver; minor = b.minor }) in
      rw s.is (ranked_lines (bind_rank drivers) bind_before (view_of_bind drivers) Known
      (λ x y p q h. rw
      (number_is drivers x.driver s.valid_drivers p.0, number_is drivers y.driver s.valid_drivers q.0) h)
      c.binds (recursion_from_All Known c.binds s.kept.sound.known.binds) s.kept.sound.ordered.binds)

  -- routes
  pub routes_ranked : IsRanked (route_rank drivers) v.routes
  routes_ranked =
      let Known : Route → Type 0 = λ r. r.driver < length drivers in
      rw s.is (ranked_lines (route_rank drivers) route_before (view_of_route drivers) Known
      (λ x y p q h. rw (number_is drivers x.driver s.valid_drivers p, number_is drivers y.driver s.valid_drivers q) h)
      c.routes (recursion_from_All Known c.routes s.kept.sound.known.routes) s.kept.sound.ordered.routes)

  -- full places
  pub fulls_ranked : IsRanked (full_rank drivers) v.fulls
  fulls_ranked =
      let Known : Place → Type 0 = λ p. IsKnown drivers p.stream in
      rw s.is (ranked_lines (full_rank drivers) place_before (view_of_full drivers) Known
      (λ x y p q h. rw (
        number_is drivers x.stream.driver s.valid_drivers p.0,
        number_is drivers y.stream.driver s.valid_drivers q.0,
      )
      (pairs_ranked x.stream.driver x.stream.minor (side_number x.side) y.stream.driver y.stream.minor
      (side_number y.side) (side_small x.side) (side_small y.side) h))
      c.fulls (recursion_from_All Known c.fulls s.kept.sound.known.fulls) s.kept.sound.ordered.fulls)

  -- hung-up streams
  pub hungs_ranked : IsRanked (hung_rank drivers) v.hungs
  hungs_ranked = rw s.is (ranked_lines (hung_rank drivers) stream_before (view_of_hung drivers) (IsKnown drivers)
      (λ x y p q h. rw
      (number_is drivers x.driver s.valid_drivers p.0, number_is drivers y.driver s.valid_drivers q.0) h)
      c.hungs (recursion_from_All (IsKnown drivers) c.hungs s.kept.sound.known.hungs) s.kept.sound.ordered.hungs)

-- a serial that differs from later ones differs from those of later lines
apart_after : (drivers : List DriverSpec) (n : ℕ) (hs : List QueuedMessage)
    → AllByRecursion (λ m. n ≢ m) (serials hs)
    → AllByRecursion (λ m. n ≢ m.message.serial) (map (view_of_message drivers) hs)
apart_after drivers n [] h = tt
apart_after drivers n (k ∷ ks) h = (h.0, apart_after drivers n ks h.1)

-- the serials of queued messages are apart in their lines
apart_lines : (drivers : List DriverSpec) (hs : List QueuedMessage) → AllLater (λ m n. m ≢ n) (serials hs)
    → AreSerialsApart (map (view_of_message drivers) hs)
apart_lines drivers [] h = tt
apart_lines drivers (k ∷ ks) h = (apart_after drivers k.message.serial ks h.0, apart_lines drivers ks h.1)

-- messages
pub serials_apart : (drivers : List DriverSpec) (v : ConfigView) → IsShown drivers v → AreSerialsApart v.msgs
serials_apart drivers v s = rw s.is (apart_lines drivers s.configuration.flow
    (later_pairs (λ m n. m ≢ n) (serials s.configuration.flow) s.kept.sound.serials.apart))
