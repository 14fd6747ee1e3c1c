-- If no link is loose, the links whose lower streams are not held are the orphaned ones.
use Rattle.smx_tables.proofs.Common.{◌≡◌, ℕ, true, false, ◌&&◌, ◌||◌, not, List, [], ◌∷◌, filter, refl, sym, ap}
use Rattle.smx_tables.proofs.Common.{subst, ◌∙◌, arith, inl, inr, not-not, nat_lt, All, AllByRecursion, list_any}
use Rattle.smx_tables.proofs.Common.{list_all, nat_tests, filter_agree, recursion_from_All, DriverSpec, Link}
use Rattle.smx_tables.proofs.Common.{Descriptor, StreamId, Configuration, same_stream, IsKnown, AreLinksSound}
use Rattle.smx_tables.proofs.Common.{is_below, is_persistent, stands_within, StreamTable, number_at, AreHeld}
use Rattle.smx_tables.proofs.Common.{IsReleasing, is_held, is_loose, is_orphaned, AreIdsOf, is_one_of}
use Rattle.std.proofs.Common.{length}
use Rattle.std.proofs.lemmas.Bool.{cases_Bool}
use Rattle.smx_model.proofs.EachLemmas.{each_both, each_map}
use Rattle.smx_streams.specs.StreamTables.{exists as is_there}
use Rattle.smx_tables.proofs.AboveLemmas.{stream_is, IsIdsRising}
use Rattle.smx_tables.proofs.ExistingLemmas.{IsTight, there_exists}
use Rattle.smx_tables.proofs.RemovalLemmas.{any_kept, links_stay, listed_any}

-- if no link is loose, the controlling stream of each ordinary link whose lower stream is held is in the table
all_tight : (t : StreamTable) (ls : List Link) → list_any (is_loose t) ls ≡ false → AllByRecursion (IsTight t) ls
all_tight t [] h = tt
all_tight t (l ∷ ls) h = grind (arith, nat_tests, all_tight t ls)

-- while links are released, a held stream is below a link
held_below : (links : List Link) (n : ℕ) (t : StreamTable) (s : StreamId) → IsReleasing links n t
    → nat_lt 0 (number_at t.holds s) ≡ true → is_below links s ≡ true
held_below links n t s h up = grind (arith, nat_tests, h.once s)

-- the links whose lower streams were released are the orphaned ones
pub released_are_orphaned : (drivers : List DriverSpec) (c : Configuration) (t : StreamTable)
    → AreLinksSound c.links → All (λ l. IsKnown drivers l.ctl) c.links
    → t.fds ≡ c.fds → IsReleasing c.links (length drivers) t → list_any (is_loose t) c.links ≡ false
    → AllByRecursion (λ l. not (is_held t l) ≡ is_orphaned c.fds c.links (length drivers) l) c.links
released_are_orphaned drivers c t sound known same h none =
    each_map _ _ c.links by (each_both _ _ c.links (recursion_from_All _ c.links h.orphaned) tight) where
      tight : AllByRecursion (IsTight t) c.links
      tight = all_tight t c.links none

      by : (l : Link) → (is_held t l ≡ false → is_orphaned t.fds c.links (length drivers) l ≡ true) × IsTight t l
          → not (is_held t l) ≡ is_orphaned c.fds c.links (length drivers) l
      by l p = elim (cases_Bool (is_held t l)) [
        | inl held ↦ rw held (elim (cases_Bool (is_persistent l)) [
          | inl q ↦ rw q refl
          | inr o ↦
              let there : stands_within c.fds c.links (length drivers) l.ctl ≡ true =
              there_exists drivers c t l.ctl sound known same (λ x up. held_below c.links (length drivers) t x h up)
              tight (p.1 held o) in
              rw (o, there) refl
        ])
        | inr free ↦
            rw free (sym (subst (λ (fds : List Descriptor). is_orphaned fds c.links (length drivers) l ≡ true) same
            (p.0 free)))
      ]

-- a stream is below a link with a held lower stream exactly if it is below a link and held
below_held : (t : StreamTable) (s : StreamId) (ls : List Link)
    → is_below (filter (is_held t) ls) s ≡ (is_below ls s && nat_lt 0 (number_at t.holds s))
below_held t s ls = any_kept (λ l. same_stream l.lower s) (is_held t) ls ∙ both ls where
  both : (ks : List Link) → list_any (λ l. same_stream l.lower s && is_held t l) ks
      ≡ (is_below ks s && nat_lt 0 (number_at t.holds s))
  both [] = refl
  both (k ∷ ks) = elim (cases_Bool (same_stream k.lower s)) [
    | inl here ↦
        let held : is_held t k ≡ nat_lt 0 (number_at t.holds s) =
        ap (λ (x : StreamId). nat_lt 0 (number_at t.holds x)) (stream_is k.lower s here) in
        rw (here, held, both ks) (grind (arith, nat_tests))
    | inr other ↦ rw other (both ks)
  ]

-- each stream below the links that are left is held
pub held_is_left : (links : List Link) (n : ℕ) (t : StreamTable) → IsReleasing links n t
    → AreHeld (filter (is_held t) links) t
held_is_left links n t h = λ s. rw (below_held t s links) (grind (arith, nat_tests, h.once s))

-- if no link is loose, the controlling stream of each ordinary link that is left is in the table
pub left_is_linked : (t : StreamTable) (ls : List Link) → list_any (is_loose t) ls ≡ false
    → list_all (λ l. is_persistent l || is_there t l.ctl) (filter (is_held t) ls) ≡ true
left_is_linked t [] h = refl
left_is_linked t (l ∷ ls) h = grind (arith, left_is_linked t ls, nat_tests)

-- the links that are left, by the ids of the others
pub left_links : (links : List Link) (ids : List ℕ) (t : StreamTable) → IsIdsRising links
    → AreIdsOf (λ l. not (is_held t l)) links ids → filter (λ l. not (is_one_of ids l)) links ≡ filter (is_held t) links
left_links links ids t rise h =
    links_stay (is_one_of ids) (λ l. not (is_held t l)) links (listed_any (λ l. not (is_held t l)) links ids rise h)
    ∙ filter_agree (λ l. not (not (is_held t l))) (is_held t) (λ l. not-not (is_held t l)) links
