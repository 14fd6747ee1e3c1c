-- Links stay sound.
use Rattle.smx_model.proofs.Common.{◌≡◌, ℕ, Bool, false, ◌||◌, eqb, List, [], ◌∷◌, ◌++◌, filter, rules, arith}
use Rattle.smx_model.proofs.Common.{false≢true, both_ways, false_from_ne_true, Command, Reply, DriverSpec, Link}
use Rattle.smx_model.proofs.Common.{outcome, Configuration, same_stream, reaches, after_move, AreLinksSound, is_below}
use Rattle.smx_model.proofs.Common.{Place}
use Rattle.std.proofs.lemmas.List.Kept.{AllPairs-filter}
use Rattle.std.proofs.lemmas.List.Quantifiers.{all_pairs_push}
use Rattle.std.proofs.lemmas.List.Folds.{list_any_at}
use Rattle.smx_model.proofs.SettledLemmas.{moved_by}
use Rattle.smx_model.proofs.AcceptedLemmas.{of_rows}
use Rattle.smx_model.proofs.MemberLemmas.{of_filtered}
use Rattle.smx_model.proofs.OutcomeLemmas.{IfAccepted}
use Rattle.smx_model.proofs.PathLemmas.{path_reaches, no_cycle_push, no_cycle_fewer}

-- sound links stay sound after a filter
pub sound_filter : (test : Link → Bool) (ls : List Link) → AreLinksSound ls → AreLinksSound (filter test ls)
sound_filter test ls h = search (rules, no_cycle_fewer, of_filtered, AllPairs-filter)

-- sound links stay sound with one more, if it closes no cycle and its lower stream is below no other
pub sound_push : (ls : List Link) (l : Link) → AreLinksSound ls → is_below ls l.lower ≡ false
    → (eqb l.lower.driver l.ctl.driver || reaches ls l.lower.driver l.ctl.driver) ≡ false → AreLinksSound (ls ++ l ∷ [])
sound_push ls l h free apart = record {
  no_cycle = no_cycle_push ls l h.no_cycle apart;
  lowers = all_pairs_push (λ l k. same_stream l.lower k.lower ≡ false) ls l h.lowers
      (λ k d lt. false_from_ne_true _
      (λ t. both_ways _ free (list_any_at (λ m. same_stream m.lower l.lower) ls k d lt t)));
}

-- the links are sound, whatever the reply
abbrev Sound : Configuration → Reply → Type 0
Sound d r = AreLinksSound d.links

-- an accepted command keeps sound links sound
pub sound_accepted : (drivers : List DriverSpec) (c : Configuration) (process : ℕ) (k : Command) → AreLinksSound c.links
    → IfAccepted Sound (outcome drivers c process k)
sound_accepted drivers c process k h = search (rules, of_rows, sound_filter, sound_push)

-- a move keeps sound links sound
pub sound_moved : (drivers : List DriverSpec) (c : Configuration) (p : Place) → AreLinksSound c.links
    → AreLinksSound (after_move drivers c p).links
sound_moved drivers c p h = moved_by (λ d. AreLinksSound d.links) drivers c p h (λ q m e. h)

-- the empty list of links is sound
pub sound_empty : AreLinksSound []
sound_empty =
    record { no_cycle = λ d h. false≢true (path_reaches [] d d h); lowers = λ i j d lt lt2. absurd (omega arith) }
