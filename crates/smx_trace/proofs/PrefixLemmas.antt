-- The first entries of a transcript, and their replay.
use Rattle.smx_trace.proofs.Common.{refl, sym, ap, subst, ◌∙◌, arith, AllByRecursion, Command, Entry, DriverSpec}
use Rattle.smx_trace.proofs.Common.{Transcript, IsLegal, after, call_of, view, TranscriptLine, IsReplayOf}
use Rattle.std.proofs.Common.{◌≡◌, ℕ, zero, suc, List, [], ◌∷◌, ◌++◌, map, take, drop, length-take}
use Rattle.std.proofs.lemmas.List.{map-append, take-append-drop}
use Rattle.smx_text.specs.TranscriptLines as line
use Rattle.smx_text.specs.TranscriptText.{FitsLine, IsAllowed, view_body}
use Rattle.smx_text.proofs.EachLemmas.{all_append, all_left, all_right}
use Rattle.smx_trace.proofs.ReplayLemmas.{AreDetermined}
use Rattle.smx_trace.specs.Prefixes.{first_entries}

-- the first entries of a transcript within the limits of its version are within them
pub first_allowed : (count : ℕ) (t : Transcript) → IsAllowed t.version t → IsAllowed t.version (first_entries count t)
first_allowed count t h =
    let Fits : TranscriptLine → Type 0 = FitsLine t.version in
    let Rest : List TranscriptLine = line.Config ∷ view_body t.view in
    let Drivers : List TranscriptLine = map line.Driver t.drivers in
    let after_drivers = all_right Fits Drivers (map line.Entry t.entries ++ Rest) h.fits in
    let entries : AllByRecursion Fits (map line.Entry (take count t.entries ++ drop count t.entries)) =
    rw (take-append-drop count t.entries) (all_left Fits (map line.Entry t.entries) Rest after_drivers) in
    let first = all_left Fits (map line.Entry (take count t.entries)) (map line.Entry (drop count t.entries))
    (rw map-append at entries) in
    record {
      version_is = refl;
      drivers = h.drivers;
      entries = omega (arith, length-take count t.entries, h.entries);
      fits = all_append Fits Drivers _ (all_left Fits Drivers (map line.Entry t.entries ++ Rest) h.fits)
          (all_append Fits (map line.Entry (take count t.entries)) Rest first
          (all_right Fits (map line.Entry t.entries) Rest after_drivers));
    }

-- the first of a list's values are the values of its first elements
taken : {X Y : Type 0} (f : X → Y) (n : ℕ) (xs : List X) → take n (map f xs) ≡ map f (take n xs)
taken f zero xs = refl
taken f (suc n) [] = refl
taken f (suc n) (x ∷ xs) = ap (λ (ys : List _). f x ∷ ys) (taken f n xs)

-- what the laws of histories say
abbrev ArePrefixesLegal : Type 0
ArePrefixesLegal = (drivers : List DriverSpec) (early late : List Entry) → IsLegal drivers (early ++ late)
    → IsLegal drivers early

-- the replay of the first entries has the first entries of the replay
pub first_of_replay : AreDetermined → ArePrefixesLegal → (count : ℕ) (t r s : Transcript) → IsReplayOf t r
    → IsReplayOf (first_entries count t) s → s.entries ≡ take count r.entries
first_of_replay determined prefixes count t r s h k = determined t.drivers s.entries (take count r.entries) k.legal
    (prefixes t.drivers (take count r.entries) (drop count r.entries)
    (subst (λ (es : List Entry). IsLegal t.drivers es) (sym (take-append-drop count r.entries)) h.legal))
    (k.calls ∙ sym (taken call_of count t.entries)
    ∙ ap (λ (calls : List (ℕ × Command)). take count calls) (sym h.calls) ∙ taken call_of count r.entries)

-- and the view after them
pub view_of_first : AreDetermined → ArePrefixesLegal → (count : ℕ) (t r s : Transcript) → IsReplayOf t r
    → IsReplayOf (first_entries count t) s → s.view ≡ view t.drivers (after t.drivers (take count r.entries))
view_of_first determined prefixes count t r s h k =
    k.shown ∙ ap (λ (es : List Entry). view t.drivers (after t.drivers es))
    (first_of_replay determined prefixes count t r s h k)
