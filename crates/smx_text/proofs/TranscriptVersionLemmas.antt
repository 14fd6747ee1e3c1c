-- The transcripts that a version can express, as a whole and line by line.
use Rattle.smx_text.proofs.Common.{refl, arith, AllByRecursion, nat_tests, is_of_hangup, most_drivers, Entry}
use Rattle.smx_text.proofs.Common.{Transcript, Version, V1, V2, HungLine}
use Rattle.std.proofs.Common.{◌≡◌, ◌≤◌, true, false, nat_lt, List, [], ◌∷◌, length}
use Rattle.std.specs.List.{list_any}
use Rattle.smx_types.specs.Versions.{least_of_transcript}
use Rattle.smx_words.specs.Spellable.{CanTell}
use Rattle.smx_text.proofs.LeastVersionLemmas.{few_drivers, is_first}

-- this version can express each entry
abbrev pub AreEntriesIn : Version → List Entry → Type 0
AreEntriesIn version es = AllByRecursion (λ e. CanTell version (is_of_hangup e)) es

-- this version can express each hung-up stream
abbrev pub AreHungsIn : Version → List HungLine → Type 0
AreHungsIn version hs = AllByRecursion (λ h. CanTell version true) hs

-- version 2 can express all entries
each_entry : (es : List Entry) → AreEntriesIn V2 es
each_entry [] = tt
each_entry (e ∷ es) = (tt, each_entry es)

-- version 2 can express all hung-up streams
each_hung : (hs : List HungLine) → AreHungsIn V2 hs
each_hung [] = tt
each_hung (h ∷ hs) = (tt, each_hung hs)

-- ---- version 1 can express a transcript that needs no later version

-- version 1 can express entries if none involves a hangup
none_of_hangup : (es : List Entry) → list_any is_of_hangup es ≡ false → AreEntriesIn V1 es
none_of_hangup [] h = tt
none_of_hangup (e ∷ es) h = grind (arith, none_of_hangup es)

-- version 1 can express an empty list of hung-up streams
none_hung : (hs : List HungLine) → nat_lt 0 (length hs) ≡ false → AreHungsIn V1 hs
none_hung [] h = tt
none_hung (x ∷ hs) h = let some : nat_lt 0 (length (x ∷ hs)) ≡ true = grind (arith, nat_tests) in absurd cc

-- a version not before the earliest one for a transcript can express its entries
pub entries_expressed : (version : Version) (t : Transcript) → (version ≡ V1 → least_of_transcript t ≡ V1)
    → AreEntriesIn version t.entries
entries_expressed V1 t told = grind (arith, is_first _ (told refl), told refl, none_of_hangup t.entries)
entries_expressed V2 t told = each_entry t.entries

-- a version not before the earliest one for a transcript can express its hung-up streams
pub hungs_expressed : (version : Version) (t : Transcript) → (version ≡ V1 → least_of_transcript t ≡ V1)
    → AreHungsIn version t.view.hungs
hungs_expressed V1 t told = grind (arith, is_first _ (told refl), told refl, none_hung t.view.hungs)
hungs_expressed V2 t told = each_hung t.view.hungs

-- ---- a transcript whose lines fit version 1 needs no later version

-- if version 1 can express the entries, none involves a hangup
no_hangup : (es : List Entry) → AreEntriesIn V1 es → list_any is_of_hangup es ≡ false
no_hangup [] h = refl
no_hangup (e ∷ es) h = rw (h.0, no_hangup es h.1) refl

-- a list of hung-up streams that version 1 can express is empty
no_hung : (hs : List HungLine) → AreHungsIn V1 hs → nat_lt 0 (length hs) ≡ false
no_hung [] h = refl
no_hung (x ∷ hs) h = absurd (cc h.0)

-- a transcript whose drivers, entries and hung-up streams version 1 can express needs no later version
pub needs_no_later : (version : Version) (t : Transcript) → length t.drivers ≤ most_drivers version
    → AreEntriesIn version t.entries → AreHungsIn version t.view.hungs
    → version ≡ V1 → least_of_transcript t ≡ V1
needs_no_later V1 t few entries hungs is = grind (arith, few_drivers, no_hangup, no_hung)
needs_no_later V2 t few entries hungs is = absurd (cc is)
