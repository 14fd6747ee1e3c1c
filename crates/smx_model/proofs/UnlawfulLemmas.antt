-- The fault of each unlawful example, and of drivers that no configuration can have.
use Rattle.smx_model.proofs.Common.{◌≡◌, ℕ, zero, suc, ◌<◌, Ok, Err, List, [], ◌∷◌, get_or, refl, sym, ap}
use Rattle.smx_model.proofs.Common.{◌∙◌, inl, inr, arith, DriverSpec, Message, IsDriverList}
use Rattle.smx_model.proofs.Common.{AreDropsAllowed, IsLawful, IsLawfulThroughout, IsTakenIn, Sends}
use Rattle.std.proofs.lemmas.List.FromFn.{get_or-map-range_with_len}
use Rattle.std.proofs.lemmas.List.Sorted.{IsPermutation-refl, length_permutation, sum_by-IsPermutation}
use Rattle.smx_types.specs.declared.driver.SpecFault.TheVariants.{BadMinors}
use Rattle.smx_types.specs.declared.reply.Reply.TheVariants as reply
use Rattle.smx_model.specs.LawfulHistories.{IsLawfulEnd}
use Rattle.smx_model.specs.Worked.Common.{eth, leaf, Write}
use Rattle.smx_model.specs.Worked.DriverLists as drivers
use Rattle.smx_model.specs.Worked.Unlawful as example
use Rattle.smx_model.proofs.KeptLemmas.{always_is_kept}

-- cycles, and a stream below two links

-- driver 1 is below itself
pub alone : IsLawfulEnd [] (example.end_with example.below_itself) → ⊥
alone h = h.no_cycle 1 (record {
  path = example.link 2 1 1 ∷ [];
  some = omega arith;
  leads = ((1, omega arith, refl), refl, refl);
})

-- drivers 1, 2 and 3 form a cycle
pub round : IsLawfulEnd [] (example.end_with example.in_a_round) → ⊥
round h = h.no_cycle 1 (record {
  path = example.link 2 1 2 ∷ example.link 3 2 3 ∷ example.link 4 3 1 ∷ [];
  some = omega arith;
  leads = (
    (1, omega arith, refl),
    refl,
    ((2, omega arith, refl), refl, ((3, omega arith, refl), refl, refl)),
  );
})

-- the first link and the third have the same lower stream
pub below_two : IsLawfulEnd [] (example.end_with example.below_two) → ⊥
below_two h = grind (arith, h.lowers_apart 0 2 (example.link 1 0 3) (omega arith) (omega arith))

-- messages

-- a history is unlawful if it accepts another number of messages than it accounts for
pub lost : IsLawful example.drivers example.lost → ⊥
lost h = let e : 0 ≡ 1 = length_permutation (1 ∷ []) [] h.conserved in absurd (omega (arith, e))

pub doubled : IsLawful example.drivers example.doubled → ⊥
doubled h = let e : 2 ≡ 1 = length_permutation (1 ∷ []) (1 ∷ 1 ∷ []) h.conserved in absurd (omega (arith, e))

pub delivered_twice : IsLawful example.drivers example.delivered_twice → ⊥
delivered_twice h = let e : 2 ≡ 1 = length_permutation (1 ∷ []) (1 ∷ 1 ∷ []) h.conserved in absurd (omega (arith, e))

pub delivered_and_dropped : IsLawful example.drivers example.delivered_and_dropped → ⊥
delivered_and_dropped h = grind (arith, length_permutation (1 ∷ []) (1 ∷ 1 ∷ []) h.conserved)

pub dropped_twice : IsLawful example.drivers example.dropped_twice → ⊥
dropped_twice h = let e : 2 ≡ 1 = length_permutation (1 ∷ []) (1 ∷ 1 ∷ []) h.conserved in absurd (omega (arith, e))

pub never_taken : IsLawful example.drivers example.never_taken → ⊥
never_taken h = let e : 1 ≡ 0 = length_permutation [] (1 ∷ []) h.conserved in absurd (omega (arith, e))

-- the serials have a different sum
pub renumbered : IsLawful example.drivers example.renumbered → ⊥
renumbered h = let e : 2 ≡ 1 = sum_by-IsPermutation (λ n. n) (1 ∷ []) (2 ∷ []) h.conserved in absurd (omega (arith, e))

-- the first message and the third have the same serial
pub one_serial : IsLawful example.drivers example.one_serial → ⊥
one_serial h = h.taken_once 0 2 1 (omega arith) (omega arith) refl

-- a message that is transmitted too early is the accepted one, at the end of the history
pub lawful_end : IsLawful example.drivers example.too_early
lawful_end = let sound = (always_is_kept example.drivers example.too_early).sound.links in record {
  no_cycle = sound.no_cycle;
  lowers_apart = sound.lowers;
  taken_once = λ i j d lt within. absurd (omega (arith, lt, within));
  conserved = IsPermutation-refl (1 ∷ []);
}

-- the message had not been accepted at that point
pub too_early : IsLawfulThroughout example.drivers example.too_early → ⊥
too_early h = never_taken (h example.never_taken _ refl)

-- the third entry is the dup
pub dropped_by_dup : AreDropsAllowed example.dropped_by_dup → ⊥
dropped_by_dup h = grind (arith, h 2 example.opened (omega arith))

-- messages that were not accepted in this form

-- only the write accepted a message
not_taken : (m : Message) → (reply.Took 1 ≡ reply.Took m.serial → Sends (Write 0 5 (170 ∷ [])) m.addr m.bytes → ⊥)
    → IsTakenIn (example.opened ∷ example.wrote ∷ []) m → ⊥
not_taken m never (took, (zero, lt, here), told, sends) = grind arith
not_taken m never (took, (suc zero, lt, here), told, sends) = grind arith
not_taken m never (took, (suc (suc k), lt, here), told, sends) = absurd (omega (arith, lt))

-- two replies that accept a message, and two lists of one number, are equal only with the same number
same_serial : (m n : ℕ) → reply.Took m ≡ reply.Took n → m ≡ n
same_serial m n e = cc

same_number : (m n : ℕ) → m ∷ [] ≡ n ∷ [] → m ≡ n
same_number m n e = cc

-- the sent bytes are those of the write
same_bytes : (addr : ℕ) (bytes : List ℕ) → Sends (Write 0 5 (170 ∷ [])) addr bytes
    → (addr ≡ 5) × (bytes ≡ 170 ∷ [])
same_bytes addr bytes (inl (fd, e)) = (cc, cc)
same_bytes addr bytes (inr (name, minor, e)) = absurd cc

pub other_serial : IsTakenIn (example.opened ∷ example.wrote ∷ []) (record { serial = 2; addr = 5; bytes = 170 ∷ [] })
    → ⊥
other_serial = not_taken _ (λ told sends. omega (arith, same_serial 1 2 told))

pub other_address : IsTakenIn (example.opened ∷ example.wrote ∷ []) (record { serial = 1; addr = 6; bytes = 170 ∷ [] })
    → ⊥
other_address = not_taken _ (λ told sends. omega (arith, (same_bytes 6 (170 ∷ []) sends).0))

pub other_bytes : IsTakenIn (example.opened ∷ example.wrote ∷ []) (record { serial = 1; addr = 5; bytes = 187 ∷ [] })
    → ⊥
other_bytes = not_taken _ (λ told sends. omega (arith, same_number 187 170 (same_bytes 5 (187 ∷ []) sends).1))

pub no_entry : IsTakenIn (example.opened ∷ []) (record { serial = 1; addr = 5; bytes = 170 ∷ [] }) → ⊥
no_entry (took, (zero, lt, here), told, sends) = grind arith
no_entry (took, (suc k, lt, here), told, sends) = absurd (omega (arith, lt))

-- drivers

-- the driver of a number is the largest one of that number
is_largest : (i : ℕ) (d : DriverSpec) → i < 128 → get_or drivers.as_many_as_may_be i d ≡ drivers.largest i
is_largest i d lt = get_or-map-range_with_len drivers.largest 0 128 i i d lt (omega arith)

-- 128 drivers at their limits with different names are valid
pub as_many : IsDriverList drivers.as_many_as_may_be
as_many = record {
  few = omega arith;
  each = λ k d lt. rw (is_largest k d lt) refl;
  names = λ i j d lt within e.
      let one : i ∷ [] ≡ j ∷ [] =
      ap (λ (x : DriverSpec). x.name) (sym (is_largest i d (omega (arith, lt, within))))
      ∙ (e ∙ ap (λ (x : DriverSpec). x.name) (is_largest j d within)) in
      let same : i ≡ j = cc in
      omega (arith, same, lt);
}

-- there are 129 drivers
pub many : IsDriverList drivers.one_too_many → ⊥
many h = absurd (omega (arith, h.few))

-- the second driver has no minors
pub invalid : IsDriverList drivers.without_minors → ⊥
invalid h = let e : Err BadMinors ≡ Ok tt = h.each 1 (leaf eth 1) (omega arith) in absurd cc

-- the first and the third driver have the same name
pub one_name : IsDriverList drivers.of_one_name → ⊥
one_name h = h.names 0 2 (leaf eth 1) (omega arith) (omega arith) refl
