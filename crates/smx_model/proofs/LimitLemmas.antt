-- Limits: of links, of descriptors of each process, and of numbers.
use Rattle.smx_model.proofs.Common.{◌≡◌, ℕ, ◌+◌, ◌<◌, ◌≤◌, Bool, false, ◌||◌, leb, eqb, arith, List, [], ◌∷◌, ◌++◌}
use Rattle.smx_model.proofs.Common.{length, filter, Ok, rules, or_parts, AllByRecursion, Command, Entry, DriverSpec}
use Rattle.smx_model.proofs.Common.{MAX_DESCRIPTORS, MAX_LINKS, NUMBER_END, Link, TooManyDescriptors, Descriptor}
use Rattle.smx_model.proofs.Common.{outcome, Configuration, empty, fd_before, after, free_fd, ComesBefore, IsRising}
use Rattle.std.specs.List.{count_by}
use Rattle.std.proofs.lemmas.Bool.{leb-false}
use Rattle.std.proofs.lemmas.List.{length_push}
use Rattle.std.proofs.lemmas.List.Sums.{count_by-le-length, length-filter}
use Rattle.smx_model.proofs.SettledLemmas.{MovesKeep, after_by, moved_by}
use Rattle.smx_model.proofs.EachLemmas.{each_filter, each_map, each_of_every, each_placed}
use Rattle.smx_model.proofs.KeptLemmas.{always_is_kept}
use Rattle.smx_model.proofs.AcceptedLemmas.{of_rows}
use Rattle.smx_model.proofs.LookupLemmas.{there_is}
use Rattle.smx_model.proofs.RangeLemmas.{range_below}
use Rattle.smx_model.proofs.OutcomeLemmas.{IfAccepted}

-- the configuration is within the limits
pub record IsWithin (c : Configuration) : Type 0 where
  pub links : length c.links ≤ MAX_LINKS
  pub numbers : AllByRecursion (λ d. d.fd < MAX_DESCRIPTORS) c.fds
  pub ids : c.next_id ≤ NUMBER_END
  pub serials : c.next_serial ≤ NUMBER_END

-- a free number of a process is below the maximum number of its descriptors
free_below : (c : Configuration) (process fd : ℕ) → free_fd c process ≡ Ok fd → fd < MAX_DESCRIPTORS
free_below c process fd e = grind (arith, range_below, there_is TooManyDescriptors _ fd e)

-- one more link, and fewer links

-- links within the limit are within it after a filter
fewer_fit : (test : Link → Bool) (ls : List Link) → length ls ≤ MAX_LINKS → length (filter test ls) ≤ MAX_LINKS
fewer_fit test ls h = omega (arith, h, length-filter test ls, count_by-le-length test ls)

-- if there is room for a link, one more link is within the limit
link_fits : (ls : List Link) (l : Link) (b : Bool) → (leb MAX_LINKS (length ls) || b) ≡ false
    → length (ls ++ l ∷ []) ≤ MAX_LINKS
link_fits ls l b room = grind (arith, length_push ls l)

-- if a next number is below its end, the one after it is at most the end
number_fits : (b : Bool) (n : ℕ) → (b || leb NUMBER_END n) ≡ false → n + 1 ≤ NUMBER_END
number_fits b n room = omega (arith, leb-false NUMBER_END n (or_parts b (leb NUMBER_END n) room).1)

-- an accepted command keeps the configuration within the limits
within_accepted : (drivers : List DriverSpec) (c : Configuration) (process : ℕ) (k : Command) → IsWithin c
    → IfAccepted (λ d r. IsWithin d) (outcome drivers c process k)
within_accepted drivers c process k h = of_rows _ drivers c process k
    (search (each_placed, each_filter, free_below, fewer_fit, link_fits, number_fits, rules) depth 24)

-- moves, settling, histories

-- each move keeps the configuration within the limits
within_moved : (drivers : List DriverSpec) → MovesKeep IsWithin drivers
within_moved drivers = grind (arith, moved_by IsWithin drivers)

-- after any history the links, numbers, ids and serials are within the limits
pub always_within : (drivers : List DriverSpec) (history : List Entry) → IsWithin (after drivers history)
always_within drivers history = after_by IsWithin drivers empty history (within_moved drivers)
    (within_accepted drivers) (record { links = omega arith; numbers = tt; ids = omega arith; serials = omega arith })

-- a process has at most as many descriptors as numbers

-- a process' descriptors after one of its own have higher numbers
later_numbers : (d : Descriptor) (ds : List Descriptor) → ComesBefore fd_before d ds
    → AllByRecursion (λ e. e.process ≡ d.process → d.fd < e.fd) ds
later_numbers d ds h = grind (arith, each_map)

-- a process has at most as many descriptors from a number on as there are numbers from there to the limit
few_from : (ds : List Descriptor) (process a : ℕ) → IsRising fd_before ds
    → AllByRecursion (λ d. d.process ≡ process → a ≤ d.fd) ds → AllByRecursion (λ d. d.fd < MAX_DESCRIPTORS) ds
    → a ≤ MAX_DESCRIPTORS
    → a + length (filter (λ d. eqb d.process process) ds) ≤ MAX_DESCRIPTORS
few_from [] process a r h k le = omega (arith, le)
few_from (d ∷ ds) process a r h k le =
    grind (arith, few_from ds process (d.fd + 1) r.1, each_map, later_numbers, few_from ds process a r.1 h.1 k.1 le)

-- after any history each process has at most the maximum number of descriptors
pub always_few : (drivers : List DriverSpec) (history : List Entry) (process : ℕ)
    → count_by (λ d. eqb d.process process) (after drivers history).fds ≤ MAX_DESCRIPTORS
always_few drivers history process =
    let ds = (after drivers history).fds in
    omega (
      arith,
      length-filter (λ d. eqb d.process process) (after drivers history).fds,
      few_from (after drivers history).fds process 0 (always_is_kept drivers history).sound.ordered.fds
          (each_of_every _ (after drivers history).fds (λ e same. omega arith))
          (always_within drivers history).numbers (omega arith),
    )
