-- The places of some drivers, and the number of each.
use Rattle.std.proofs.Common.{◌≡◌, ℕ, zero, suc, ◌+◌, ◌-◌, ◌*◌, ◌<◌, ◌≤◌, true, false, List, [], ◌∷◌, ◌++◌, length}
use Rattle.std.proofs.Common.{drop, Option, Some, get_or, refl, sym, ap, ◌∙◌, arith, inl, inr, append_assoc, add-one}
use Rattle.std.proofs.Common.{length-append, rules}
use Rattle.std.specs.Prelude.{slice_get}
use Rattle.std.specs.List.{list_any}
use Rattle.std.specs.Option.{option_map_or}
use Rattle.std.proofs.lemmas.Bool.{cases_lt, cases_order, false≢true, false_from_ne_true, lt-ltb}
use Rattle.std.proofs.lemmas.Bool.Decides.{nat_tests}
use Rattle.std.proofs.lemmas.List.{drop_all, drop_more}
use Rattle.std.proofs.lemmas.List.Folds.{list_any_none}
use Rattle.std.proofs.lemmas.Option.{same_Some, slice_get-get_or, slice_get_within}
use Rattle.smx_types.specs.declared.driver.DriverSpec.{DriverSpec}
use Rattle.smx_types.specs.declared.stream.Place.{Place}
use Rattle.smx_types.specs.declared.stream.Side.{Side}
use Rattle.smx_types.specs.declared.stream.Side.TheVariants as side
use Rattle.smx_model.specs.Configuration.{place_before, same_place, side_number}
use Rattle.smx_model.specs.DriverList.{minors_of}
use Rattle.smx_model.specs.KnownStreams.{IsKnown}
use Rattle.smx_model.specs.Ordered.{IsRising}
use Rattle.smx_model.proofs.EachLemmas.{later_pairs}
use Rattle.smx_queues.specs.PlaceLists.{ArePlaces, driver_row, number_in, places_from, places_of, rows_from, rows_of}
use Rattle.smx_queues.specs.PlaceLists.{sides_of}
use Rattle.smx_queues.specs.declared.places.DriverRow.{DriverRow}
use Rattle.smx_queues.proofs.PlaceLemmas.{lower_driver, not_after, place_at, place_is}

-- ---- elements of two lists

-- the element at index k of an appended list is at index k past the end of the first list
pub get_right : {X : Type 0} (xs ys : List X) (n k : ℕ) → n ≡ length xs + k → slice_get (xs ++ ys) n ≡ slice_get ys k
get_right [] ys n k e = ap (slice_get ys) (omega arith)
get_right (x ∷ xs) ys zero k e = absurd (omega arith)
get_right (x ∷ xs) ys (suc n) k e = get_right xs ys n k (omega arith)

-- within the first of two lists, the joined list has the same element at each index
pub left_only : {X : Type 0} (xs ys : List X) (i : ℕ) → i < length xs → slice_get (xs ++ ys) i ≡ slice_get xs i
left_only [] ys i lt = absurd (omega arith)
left_only (x ∷ xs) ys zero lt = refl
left_only (x ∷ xs) ys (suc i) lt = left_only xs ys i (omega arith)

-- an element of a list is at the same index if another list is appended
pub get_left : {X : Type 0} (xs ys : List X) (i : ℕ) (x : X) → slice_get xs i ≡ Some x → slice_get (xs ++ ys) i ≡ Some x
get_left xs ys i x at = left_only xs ys i (slice_get_within xs i x at) ∙ at

-- ---- both sides of some minors

-- both sides of `n` minors are twice as many places
pub sides_length : (driver n : ℕ) → length (sides_of driver n) ≡ 2 * n
sides_length driver zero = refl
sides_length driver (suc n) = grind (arith, length-append, place_at, sides_length driver n)

-- of the two sides of a minor, the write side is the first and the read side the second
last_two : (driver n : ℕ) (s : Side)
    → slice_get (place_at driver n side.Write ∷ place_at driver n side.Read ∷ []) (side_number s)
    ≡ Some (place_at driver n s)
last_two driver n side.Write = refl
last_two driver n side.Read = refl

-- the index of a side is twice its minor plus the number of the side
pub sides_at : (driver n m : ℕ) (s : Side) → m < n
    → slice_get (sides_of driver n) (2 * m + side_number s) ≡ Some (place_at driver m s)
sides_at driver zero m s lt = absurd (omega arith)
sides_at driver (suc n) m s lt = elim (cases_lt m n) [
  | inl less ↦ get_left (sides_of driver n) (place_at driver n side.Write ∷ place_at driver n side.Read ∷ [])
      (2 * m + side_number s) (place_at driver m s) (sides_at driver n m s less)
  | inr more ↦
      let e : m ≡ n = omega arith in
      rw e (get_right (sides_of driver n) (place_at driver n side.Write ∷ place_at driver n side.Read ∷ [])
      (2 * n + side_number s) (side_number s) (omega (arith, sides_length driver n)) ∙ last_two driver n s)
]

-- each place in that list is one of these, at this index
sides_are : (driver n i : ℕ) (p : Place) → slice_get (sides_of driver n) i ≡ Some p
    → (p.stream.driver ≡ driver) × ((p.stream.minor < n) × (i ≡ 2 * p.stream.minor + side_number p.side))
sides_are driver zero i p at = absurd cc
sides_are driver (suc n) i p at = elim (cases_lt i (length (sides_of driver n))) [
  | inl before ↦
      let s = sides_are driver n i p (sym (left_only (sides_of driver n)
      (place_at driver n side.Write ∷ place_at driver n side.Read ∷ []) i before) ∙ at) in
      (s.0, (omega (arith, s.1.0), s.1.1))
  | inr past ↦
      let k : ℕ = i - length (sides_of driver n) in
      last k (omega (arith, past, sides_length driver n)) (sym (get_right (sides_of driver n)
      (place_at driver n side.Write ∷ place_at driver n side.Read ∷ []) i k (omega (arith, past))) ∙ at)
] where
  last : (k : ℕ) → i ≡ 2 * n + k
      → slice_get (place_at driver n side.Write ∷ place_at driver n side.Read ∷ []) k ≡ Some p
      → (p.stream.driver ≡ driver) × ((p.stream.minor < suc n) × (i ≡ 2 * p.stream.minor + side_number p.side))
  last zero is e = rw (← same_Some (place_at driver n side.Write) p e) (refl, (omega arith, is))
  last (suc zero) is e = rw (← same_Some (place_at driver n side.Read) p e) (refl, (omega arith, is))
  last (suc (suc k)) is e = absurd cc

-- ---- the rows of drivers

-- there is a row for each driver
rows_length : (first : ℕ) (drivers : List DriverSpec) → length (rows_from first drivers) ≡ length drivers
rows_length first [] = refl
rows_length first (d ∷ drivers) = omega (arith, rows_length (first + 2 * d.minors) drivers)

-- the row of a driver has its minors
row_there : (first : ℕ) (drivers : List DriverSpec) (k : ℕ) → k < length drivers
    → (row : DriverRow) × ((slice_get (rows_from first drivers) k ≡ Some row) × (row.minors ≡ minors_of drivers k))
row_there first [] k lt = absurd (omega arith)
row_there first (d ∷ drivers) zero lt = (driver_row first d.minors, (refl, refl))
row_there first (d ∷ drivers) (suc k) lt = row_there (first + 2 * d.minors) drivers k (omega arith)

-- the row of a later driver begins after all numbers of an earlier one
rows_apart : (first : ℕ) (drivers : List DriverSpec) (j k : ℕ) (row later : DriverRow)
    → slice_get (rows_from first drivers) j ≡ Some row → slice_get (rows_from first drivers) k ≡ Some later → j < k
    → row.first + 2 * row.minors ≤ later.first
rows_apart first [] j k row later a b lt = absurd cc
rows_apart first (d ∷ drivers) j zero row later a b lt = absurd (omega arith)
rows_apart first (d ∷ drivers) zero (suc k) row later a b lt =
    rw (← same_Some (driver_row first d.minors) row a) (starts (first + 2 * d.minors) drivers k b)
  where
    starts : (first : ℕ) (drivers : List DriverSpec) (k : ℕ) → slice_get (rows_from first drivers) k ≡ Some later
        → first ≤ later.first
    starts first [] k b = absurd cc
    starts first (d ∷ drivers) zero b = rw (← same_Some (driver_row first d.minors) later b) (omega arith)
    starts first (d ∷ drivers) (suc k) b = omega (arith, starts (first + 2 * d.minors) drivers k b)
rows_apart first (d ∷ drivers) (suc j) (suc k) row later a b lt =
    rows_apart (first + 2 * d.minors) drivers j k row later a b (omega arith)

-- ---- the number of a place

-- the row of the place's driver gives this number, which is an index after the number of the first place
record IsNumbered (first n : ℕ) (drivers : List DriverSpec) (i : ℕ) (p : Place) : Type 0 where
  k : ℕ
  row : DriverRow
  driver_is : p.stream.driver ≡ n + k
  at : slice_get (rows_from first drivers) k ≡ Some row
  minor_below : p.stream.minor < row.minors
  number : first + i ≡ number_in row p

-- the row of its driver gives the index of each place
numbered_from : (first n : ℕ) (drivers : List DriverSpec) (i : ℕ) (p : Place)
    → slice_get (places_from n drivers) i ≡ Some p → IsNumbered first n drivers i p
numbered_from first n [] i p at = absurd cc
numbered_from first n (d ∷ drivers) i p at = elim (cases_lt i (length (sides_of n d.minors))) [
  | inl before ↦
      let s = sides_are n d.minors i p
      (sym (left_only (sides_of n d.minors) (places_from (suc n) drivers) i before) ∙ at) in
      record {
        k = 0;
        row = driver_row first d.minors;
        driver_is = omega (arith, s.0);
        at = refl;
        minor_below = s.1.0;
        number = omega (arith, s.1.1);
      }
  | inr past ↦
      let j : ℕ = i - length (sides_of n d.minors) in
      let r = numbered_from (first + 2 * d.minors) (suc n) drivers j p (sym (get_right (sides_of n d.minors)
      (places_from (suc n) drivers) i j (omega (arith, past))) ∙ at) in
      record {
        k = suc r.k;
        row = r.row;
        driver_is = omega (arith, r.driver_is);
        at = r.at;
        minor_below = r.minor_below;
        number = omega (arith, r.number, past, sides_length n d.minors);
      }
]

-- each number that a row gives is the index of its place
number_from : (first n : ℕ) (drivers : List DriverSpec) (p : Place) (k : ℕ) (row : DriverRow)
    → slice_get (rows_from first drivers) k ≡ Some row → p.stream.driver ≡ n + k → p.stream.minor < row.minors
    → (i : ℕ) × ((first + i ≡ number_in row p) × (slice_get (places_from n drivers) i ≡ Some p))
number_from first n [] p k row at is lt = absurd cc
number_from first n (d ∷ drivers) p zero row at is lt =
    grind (
      arith,
      same_Some (driver_row first d.minors) row at,
      get_left (sides_of n d.minors) (places_from (suc n) drivers) (2 * p.stream.minor + side_number p.side) p,
      sides_at n d.minors p.stream.minor p.side,
      place_at,
    )
number_from first n (d ∷ drivers) p (suc k) row at is lt =
    let r = number_from (first + 2 * d.minors) (suc n) drivers p k row at (omega arith) lt in (
      length (sides_of n d.minors) + r.0,
      (
        omega (arith, r.1.0, sides_length n d.minors),
        get_right (sides_of n d.minors) (places_from (suc n) drivers) (length (sides_of n d.minors) + r.0) r.0 refl
            ∙ r.1.1,
      ),
    )

module _ (drivers : List DriverSpec) where
  -- the number that is found by the row of a driver is that of the place
  pub number_is : (p : Place) (row : DriverRow) → Some row ≡ slice_get (rows_of drivers) p.stream.driver
      → p.stream.minor < row.minors → slice_get (places_of drivers) (number_in row p) ≡ Some p
  number_is p row at lt =
      let r = number_from 0 0 drivers p p.stream.driver row (sym at) (omega arith) lt in
      let e : r.0 ≡ number_in row p = omega (arith, r.1.0) in rw (← e) r.1.1

  -- so it is one of the numbers of all places
  pub number_within : (p : Place) (row : DriverRow) → Some row ≡ slice_get (rows_of drivers) p.stream.driver
      → p.stream.minor < row.minors → number_in row p < length (places_of drivers)
  number_within p row at lt = slice_get_within (places_of drivers) (number_in row p) p (number_is p row at lt)

  -- a place that has a number is a side of a stream that the drivers have
  pub number_known : (i : ℕ) (p : Place) → slice_get (places_of drivers) i ≡ Some p → IsKnown drivers p.stream
  number_known i p at =
      let r = numbered_from 0 0 drivers i p at in
      let below : r.k < length drivers =
      omega (arith, slice_get_within (rows_of drivers) r.k r.row r.at, rows_length 0 drivers) in
      let t = row_there 0 drivers r.k below in
      let same : t.0 ≡ r.row = same_Some t.0 r.row (sym t.1.0 ∙ r.at) in
      let e : r.k ≡ p.stream.driver = omega (arith, r.driver_is) in
      rw (← e) (below, omega (arith, r.minor_below, t.1.1, ap (λ (x : DriverRow). x.minors) same))

  -- either side of a stream that drivers have has a number
  pub known_number : (p : Place) → IsKnown drivers p.stream → (i : ℕ) × (slice_get (places_of drivers) i ≡ Some p)
  known_number p known =
      let t = row_there 0 drivers p.stream.driver known.0 in
      (_, number_is p t.0 (sym t.1.0) (omega (arith, known.1, t.1.1)))

  -- the place of a number is a place of one of the drivers
  pub driver_at : (i : ℕ) (d : Place) → i < length (places_of drivers)
      → (get_or (places_of drivers) i d).stream.driver < length drivers
  driver_at i d lt = (number_known i _ (slice_get-get_or (places_of drivers) i d lt)).0

  -- if the row of its driver isn't there, or has too few minors, the drivers don't have the stream
  pub row_unknown : (p : Place) (o : Option DriverRow) → o ≡ slice_get (rows_of drivers) p.stream.driver
      → ((row : DriverRow) → o ≡ Some row → row.minors ≤ p.stream.minor) → IsKnown drivers p.stream → ⊥
  row_unknown p o is few known =
      let t = row_there 0 drivers p.stream.driver known.0 in
      omega (arith, known.1, t.1.1, few t.0 (is ∙ t.1.0))

  -- the place of a stream that the drivers don't have has no number
  pub unknown_absent : (p : Place) → (IsKnown drivers p.stream → ⊥)
      → list_any (same_place p) (places_of drivers) ≡ false
  unknown_absent p unknown = list_any_none (same_place p) (places_of drivers) (λ k d lt.
      false_from_ne_true _ (λ t. unknown (number_known k p (slice_get-get_or (places_of drivers) k d lt
      ∙ ap (λ (x : Place). Some x) (sym (place_is p _ t))))))

  -- a place has one number
  pub same_number : (i j : ℕ) (p : Place) → slice_get (places_of drivers) i ≡ Some p
      → slice_get (places_of drivers) j ≡ Some p → i ≡ j
  same_number i j p a b =
      let r = numbered_from 0 0 drivers i p a in
      let t = numbered_from 0 0 drivers j p b in
      let k : r.k ≡ t.k = omega (arith, r.driver_is, t.driver_is) in
      let row : r.row ≡ t.row = same_Some r.row t.row (sym r.at ∙ (ap (slice_get (rows_of drivers)) k ∙ t.at)) in
      omega (arith, r.number, t.number, ap (λ (x : DriverRow). x.first) row)

  -- the place of a lower number comes first
  pub lower_before : (i j : ℕ) (p q : Place) → i < j → slice_get (places_of drivers) i ≡ Some p
      → slice_get (places_of drivers) j ≡ Some q → place_before p q ≡ true
  lower_before i j p q lt a b =
      let r = numbered_from 0 0 drivers i p a in
      let t = numbered_from 0 0 drivers j q b in
      elim (cases_order r.k t.k) [
        | inl same ↦
            let row : r.row ≡ t.row =
            same_Some r.row t.row (sym r.at ∙ (ap (slice_get (rows_of drivers)) same ∙ t.at)) in
            in_driver p q (omega (arith, r.driver_is, t.driver_is, same))
            (omega (arith, lt, r.number, t.number, ap (λ (x : DriverRow). x.first) row))
        | inr (inl less) ↦ lower_driver p q (lt-ltb _ _ (omega (arith, r.driver_is, t.driver_is, less)))
        | inr (inr more) ↦
            let apart = rows_apart 0 drivers t.k r.k t.row r.row t.at r.at more in
            absurd (omega (arith, lt, apart, r.number, t.number, t.minor_below, side_bound q.side))
      ]
    where
      side_bound : (s : Side) → side_number s < 2
      side_bound side.Write = omega arith
      side_bound side.Read = omega arith

      in_driver : (p q : Place) → p.stream.driver ≡ q.stream.driver
          → 2 * p.stream.minor + side_number p.side < 2 * q.stream.minor + side_number q.side → place_before p q ≡ true
      in_driver p q same less = grind (arith, nat_tests, side_bound p.side, side_bound q.side)

  -- a place that comes before another has a lower number
  pub before_lower : (i j : ℕ) (p q : Place) → slice_get (places_of drivers) i ≡ Some p
      → slice_get (places_of drivers) j ≡ Some q → place_before p q ≡ true → i < j
  before_lower i j p q a b before = elim (cases_order i j) [
    | inl same ↦
        let is : p ≡ q = same_Some p q (sym a ∙ (ap (slice_get (places_of drivers)) same ∙ b)) in
        let here : place_before q q ≡ true = rw is at before in
        absurd (false≢true (sym (not_after q q here) ∙ here))
    | inr (inl lt) ↦ lt
    | inr (inr more) ↦ absurd (false≢true (sym (not_after q p (lower_before j i q p more b a)) ∙ before))
  ]

  -- the places of drivers rise
  pub places_rise : IsRising place_before (places_of drivers)
  places_rise = later_pairs (λ x y. place_before x y ≡ true) (places_of drivers) (λ i j d lt below.
      lower_before i j _ _ lt (slice_get-get_or (places_of drivers) i d (omega (arith, lt, below)))
      (slice_get-get_or (places_of drivers) j d below))

-- ---- one driver after the other

-- with those of the drivers from number `i` on, these are the rows and the places of all drivers
pub record AreSoFar (drivers : List DriverSpec) (rows : List DriverRow) (places : List Place) (i : ℕ) : Type 0 where
  pub rows_left : rows ++ rows_from (length places) (drop i drivers) ≡ rows_of drivers
  pub places_left : places ++ places_from i (drop i drivers) ≡ places_of drivers

-- this holds again after the row and the places of the next driver were added
pub next_driver : (drivers : List DriverSpec) (i : ℕ) (rows : List DriverRow) (places : List Place) (m : ℕ)
    → i < length drivers → m ≡ minors_of drivers i → AreSoFar drivers rows places i
    → AreSoFar drivers (rows ++ driver_row (length places) m ∷ []) (places ++ sides_of i m) (i + 1)
next_driver [] i rows places m lt is h = absurd (omega arith)
next_driver (first ∷ others) i rows places m lt is h =
    let drivers : List DriverSpec = first ∷ others in
    let d : DriverSpec = get_or drivers i first in
    let minors : d.minors ≡ m = ap (λ (o : Option DriverSpec). option_map_or (λ x. x.minors) o 0)
    (sym (slice_get-get_or drivers i first lt)) ∙ sym is in
    let parts : drop i drivers ≡ d ∷ drop (i + 1) drivers = drop_more drivers i first lt in
    let long : length (places ++ sides_of i m) ≡ length places + 2 * m =
    length-append places (sides_of i m) ∙ ap (λ (n : ℕ). length places + n) (sides_length i m) in
    record {
      rows_left = append_assoc rows (driver_row (length places) m ∷ []) _
          ∙ rw (long, ← minors) (sym (ap (λ (ds : List DriverSpec). rows ++ rows_from (length places) ds) parts))
          ∙ h.rows_left;
      places_left = append_assoc places (sides_of i m) _
          ∙ ap (λ (k : ℕ). places ++ (sides_of i m ++ places_from k (drop (i + 1) drivers))) (add-one i)
          ∙ rw (← minors) (sym (ap (λ (ds : List DriverSpec). places ++ places_from i ds) parts))
          ∙ h.places_left;
    }

-- after the last driver, these are all rows and places
pub all_drivers : (drivers : List DriverSpec) (i : ℕ) (rows : List DriverRow) (places : List Place) → length drivers ≤ i
    → AreSoFar drivers rows places i → ArePlaces drivers rows places
all_drivers drivers i rows places past h = search (rules, drop_all)
