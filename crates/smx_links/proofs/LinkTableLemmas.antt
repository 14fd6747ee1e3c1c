-- A table of links: how it is made and changed.
use Rattle.smx_model.proofs.Common.{◌≡◌, ℕ, zero, suc, ◌<◌, ◌≤◌, ◌+◌, Bool, true, false, ◌||◌, eqb, List, [], ◌∷◌}
use Rattle.smx_model.proofs.Common.{◌++◌, length, filter, get_or, replicate, take, Option, Some, None, refl, arith}
use Rattle.smx_model.proofs.Common.{length-append, if◌then◌else◌, All-nil, All-filter, MAX_DRIVERS, MAX_LINKS}
use Rattle.smx_model.proofs.Common.{NUMBER_END, Link, LinkKind, StreamId, reaches, is_below}
use Rattle.std.proofs.Common.{drop}
use Rattle.std.proofs.lemmas.List.{length-replicate, take_at}
use Rattle.std.proofs.lemmas.List.Elements.{All-push}
use Rattle.std.proofs.lemmas.List.Sums.{length-filter, count_by-le-length}
use Rattle.smx_model.proofs.IdLemmas.{ids_filter, ids_none, ids_push}
use Rattle.smx_model.proofs.SoundLemmas.{sound_empty, sound_filter, sound_push}
use Rattle.smx_links.specs.declared.table.LinkFault.{LinkFault}
use Rattle.smx_links.specs.LinkLists.{LinkList, refusal}
use Rattle.smx_links.specs.Masks.{AreMasks, IsWithin}
use Rattle.smx_links.specs.TableFields.{AreParts, list_of_parts}
use Rattle.smx_links.proofs.BitLemmas.{is_set_zero}

-- no links

-- n words that are 0
abbrev pub no_bits : ℕ → List ℕ
no_bits n = replicate n 0

-- each of these words is 0
zeros : (n a : ℕ) → get_or (no_bits n) a 0 ≡ 0
zeros zero a = refl
zeros (suc n) zero = refl
zeros (suc n) (suc a) = zeros n a

-- these words are the masks of no links
pub no_masks : (n : ℕ) → AreMasks [] (no_bits n)
no_masks n a b = rw (zeros n a) (is_set_zero b)

-- the fields of a table without links
pub parts_empty : (n : ℕ) → n ≤ MAX_DRIVERS → AreParts (no_bits n) [] 1
parts_empty n h = grind (arith, sound_empty, ids_none, All-nil, length-replicate, no_masks)

-- no refusal

-- if none of three conditions is the first that applies, none of them applies
not_refused : (x y z : LinkFault) (a b c : Bool)
    → ◌≡◌ {A = Option LinkFault} (if a then Some x else if b then Some y else if c then Some z else None) None
    → (a ≡ false) × (b ≡ false) × (c ≡ false)
not_refused x y z true b c h = absurd cc
not_refused x y z false true c h = absurd cc
not_refused x y z false false true h = absurd cc
not_refused x y z false false false h = (refl, refl, refl)

-- what holds of two streams if no refusal applies to a link between them
pub record IsFree (t : LinkList) (ctl lower : StreamId) : Type 0 where
  pub below : is_below t.links lower ≡ false
  pub apart : (eqb lower.driver ctl.driver || reaches t.links lower.driver ctl.driver) ≡ false
  pub few : length t.links < MAX_LINKS
  pub numbered : t.next_id < NUMBER_END

-- if no refusal applies, these facts hold
pub is_free : (t : LinkList) (ctl lower : StreamId) → refusal t ctl lower ≡ None → IsFree t ctl lower
is_free t ctl lower h = grind (arith, not_refused)

-- one more link

-- the fields of a table with one more link
pub parts_push : (ws vs : List ℕ) (ls : List Link) (n : ℕ) (ctl lower : StreamId) (kind : LinkKind) → AreParts ws ls n
    → IsFree (list_of_parts ws ls n) ctl lower → ctl.driver < length ws → lower.driver < length ws
    → length vs ≡ length ws → AreMasks (ls ++ record { id = n; ctl = ctl; lower = lower; kind = kind } ∷ []) vs
    → AreParts vs (ls ++ record { id = n; ctl = ctl; lower = lower; kind = kind } ∷ []) (n + 1)
parts_push ws vs ls n ctl lower kind h free up low long masks =
    let link : Link = record { id = n; ctl = ctl; lower = lower; kind = kind } in record {
      list = record {
        sound = sound_push ls link h.list.sound free.below free.apart;
        ids = ids_push ls link h.list.ids;
        few = let one = length-append ls (link ∷ []) in omega (arith, one, free.few);
        numbered = omega (arith, free.numbered);
      };
      within = rw long (All-push (IsWithin (length ws)) ls link h.within (up, low));
      few = rw long h.few;
      masks = masks;
    }

-- fewer links

-- a filtered list is not longer
fewer : {X : Type 0} (test : X → Bool) (xs : List X) → length (filter test xs) ≤ length xs
fewer test xs = rw (length-filter test xs) (count_by-le-length test xs)

-- the fields of a table without some links
pub parts_less : (ws vs : List ℕ) (ls ks : List Link) (n : ℕ) (stays : Link → Bool) → AreParts ws ls n
    → ks ≡ filter stays ls → length vs ≡ length ws → AreMasks ks vs → AreParts vs ks n
parts_less ws vs ls ks n stays h is long masks = record {
  list = rw is (record {
    sound = sound_filter stays ls h.list.sound;
    ids = ids_filter ls stays n h.list.ids;
    few = omega (arith, fewer stays ls, h.list.few);
    numbered = h.list.numbered;
  });
  within = rw (is, long) (All-filter stays (IsWithin (length ws)) ls h.within);
  few = rw long h.few;
  masks = masks;
}

-- a vector keeps its length while a slice of all of it is borrowed
pub lent : (n : ℕ) (new old : List ℕ) → length new ≡ length old → n ≡ length old
    → take n (new ++ drop (length new) old) ≡ new
lent n new old e k = take_at new (drop (length new) old) n (omega arith)
