-- The streams that exist within some climbs, and the result of a sweep.
use Rattle.smx_model.proofs.Common.{◌≡◌, ℕ, zero, suc, ◌<◌, ◌≤◌, true, ◌&&◌, not, List, length, filter}
use Rattle.smx_model.proofs.Common.{refl, subst, arith, inl, inr, list_any, cases_lt, and_parts}
use Rattle.smx_model.proofs.Common.{or_cases, or_left, or_right, and_from, AllByRecursion, Descriptor}
use Rattle.smx_model.proofs.Common.{DriverSpec, Link, StreamId, Configuration, same_stream, HasNoCycle, reaches}
use Rattle.smx_model.proofs.Common.{after_sweep, is_persistent, stands_within, exists, IsSwept, rules}
use Rattle.smx_model.proofs.SettlingLemmas.{count, count_le, up_less}
use Rattle.smx_model.proofs.TestLemmas.{any_same, any_filter, all_passes, any_found, any_more_each}

-- more climbs

-- a stream that exists within some climbs exists within any greater number of them
pub stands_more : (fds : List Descriptor) (links : List Link) (n m : ℕ) (s : StreamId) → n ≤ m
    → stands_within fds links n s ≡ true → stands_within fds links m s ≡ true
stands_more fds links n zero s le h = grind arith
stands_more fds links n (suc m) s le h = elim (cases_lt m n) [
  | inl lt ↦ let e : n ≡ suc m = omega arith in subst (λ (k : ℕ). stands_within fds links k s ≡ true) e h
  | inr ge ↦ or_left _ _ (stands_more fds links n m s ge h)
]

-- without links whose controlling stream doesn't exist

-- without the ordinary links whose controlling stream doesn't exist within m climbs, the same streams exist within
-- any number of climbs up to m
stands_filter : (fds : List Descriptor) (links : List Link) (m n : ℕ) (s : StreamId) → n ≤ m
    → stands_within fds (filter (λ l. not (not (is_persistent l) && not (stands_within fds links m l.ctl))) links) n s
    ≡ stands_within fds links n s
stands_filter fds links m zero s le = grind (arith, any_filter)
stands_filter fds links m (suc n) s le =
    grind (
      arith,
      stands_filter fds links m n s (omega arith),
      any_same,
      stands_filter fds links m n,
      any_filter,
      stands_more,
    )

-- after a sweep the same streams exist
swept_exists : (drivers : List DriverSpec) (c : Configuration) (s : StreamId)
    → exists drivers (after_sweep drivers c) s ≡ exists drivers c s
swept_exists drivers c s = stands_filter c.fds c.links (length drivers) (length drivers) s (omega arith)

-- after a sweep the configuration is swept
pub swept_is : (drivers : List DriverSpec) (c : Configuration) → IsSwept drivers (after_sweep drivers c)
swept_is drivers c = grind (arith, all_passes, swept_exists)

-- the number of climbs that suffices

-- the number of drivers that reach a driver
abbrev height : List DriverSpec → List Link → ℕ → ℕ
height drivers links d = count (λ x. reaches links x d) (length drivers)

-- the link's upper driver is in range, and reaches its lower one
pub record IsLinkIn (drivers : List DriverSpec) (links : List Link) (l : Link) : Type 0 where
  pub ctl : l.ctl.driver < length drivers
  pub leads : reaches links l.ctl.driver l.lower.driver ≡ true

-- without a cycle fewer drivers reach the upper driver of a link than the driver of its lower stream
link_rises : (drivers : List DriverSpec) (links : List Link) (l : Link) (s : StreamId) → HasNoCycle links
    → IsLinkIn drivers links l → same_stream l.lower s ≡ true
    → height drivers links l.ctl.driver < height drivers links s.driver
link_rises drivers links l s none h same = grind (arith, up_less links (length drivers) l.ctl.driver s.driver none)

-- without a cycle a stream that exists within any climbs does so within the number of drivers that reach its driver
enough_climbs : (drivers : List DriverSpec) (fds : List Descriptor) (links : List Link) (n : ℕ) (s : StreamId)
    → HasNoCycle links → AllByRecursion (IsLinkIn drivers links) links
    → stands_within fds links n s ≡ true → stands_within fds links (height drivers links s.driver) s ≡ true
enough_climbs drivers fds links zero s none below h = search (rules, stands_more)
enough_climbs drivers fds links (suc n) s none below
    h = elim (or_cases (stands_within fds links n s)
    (list_any (λ l. not (is_persistent l) && (same_stream l.lower s && stands_within fds links n l.ctl)) links) h) [
      | inl k ↦ enough_climbs drivers fds links n s none below k
      | inr k ↦ by (λ t. enough_climbs drivers fds links n t none below) k (height drivers links s.driver) refl
    ] where
      by : ((t : StreamId) → stands_within fds links n t ≡ true
          → stands_within fds links (height drivers links t.driver) t ≡ true)
          → list_any (λ l. not (is_persistent l) && (same_stream l.lower s && stands_within fds links n l.ctl)) links
          ≡ true
          → (r : ℕ) → height drivers links s.driver ≡ r → stands_within fds links r s ≡ true
      by up k zero e = let f = any_found (λ l. not (is_persistent l)
          && (same_stream l.lower s && stands_within fds links n l.ctl)) (IsLinkIn drivers links) links below k in
          let a = and_parts (not (is_persistent f.one))
          (same_stream f.one.lower s && stands_within fds links n f.one.ctl) f.passes in
          absurd (omega (
            arith,
            e,
            link_rises drivers links f.one s none f.has
                (and_parts (same_stream f.one.lower s) (stands_within fds links n f.one.ctl) a.1).0,
          ))
      by up k (suc r) e = or_right _ _
          (any_more_each (IsLinkIn drivers links)
          (λ l. not (is_persistent l) && (same_stream l.lower s && stands_within fds links n l.ctl))
          (λ l. not (is_persistent l) && (same_stream l.lower s && stands_within fds links r l.ctl)) links below
          (λ l in_ passes. let a = and_parts (not (is_persistent l))
          (same_stream l.lower s && stands_within fds links n l.ctl) passes in
          let b = and_parts (same_stream l.lower s) (stands_within fds links n l.ctl) a.1 in
          and_from _ _ a.0
          (and_from _ _ b.0 (stands_more fds links (height drivers links l.ctl.driver) r l.ctl
          (omega (arith, e, link_rises drivers links l s none in_ b.0)) (up l.ctl b.1)))) k)

-- without a cycle a stream that exists within any climbs does so within as many as there are drivers
pub climbs_suffice : (drivers : List DriverSpec) (fds : List Descriptor) (links : List Link) (n : ℕ) (s : StreamId)
    → HasNoCycle links → AllByRecursion (IsLinkIn drivers links) links
    → stands_within fds links n s ≡ true → stands_within fds links (length drivers) s ≡ true
climbs_suffice drivers fds links n s none below h = stands_more fds links (height drivers links s.driver)
    (length drivers) s (count_le (λ x. reaches links x s.driver) (length drivers))
    (enough_climbs drivers fds links n s none below h)
