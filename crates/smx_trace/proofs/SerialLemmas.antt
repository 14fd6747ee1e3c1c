-- Queued messages by their serials.
use Rattle.smx_trace.proofs.Common.{rules, ◌≢◌, ◌+◌, ◌<◌, Bool, true, false, not, eqb, Option, Some, None, Result}
use Rattle.smx_trace.proofs.Common.{get_or, refl, sym, ap, ◌∙◌, subst, arith, append_assoc, inl, inr, Decides}
use Rattle.smx_trace.proofs.Common.{AllByRecursion, list_any, cases_Bool, false_from_ne_true, or_from, nat_tests}
use Rattle.smx_trace.proofs.Common.{flat_map-append, append-nil, take_more, MessageLine, Change, arrival_change}
use Rattle.smx_trace.proofs.Common.{missing_from, same_serial, FindsBySerial, same_line, changes_text}
use Rattle.std.proofs.Common.{◌≡◌, ℕ, suc, cond, List, [], ◌∷◌, ◌++◌, Ok, Err, length, take, drop, drop-cons, map}
use Rattle.std.proofs.Common.{add-one}
use Rattle.std.specs.List.{filter}
use Rattle.std.specs.Prelude.{find, slice_get, OnOk}
use Rattle.std.proofs.lemmas.List.{map-append}
use Rattle.std.proofs.lemmas.List.Elements.{filter-append}
use Rattle.std.proofs.lemmas.Option.{slice_get-get_or}
use Rattle.smx_model.specs.Changes as change
use Rattle.smx_model.specs.Settling.{◌>>=◌}
use Rattle.smx_trace.specs.Serials.{AreSerialsApart}
use Rattle.smx_trace.specs.TraceWords.{change_text}

-- `==` decides equality of lines of messages
message_tells : (m n : MessageLine) → Decides (same_line m n) (m ≡ n)
message_tells m n = search rules

-- a number equals itself
eqb_self : (n : ℕ) → eqb n n ≡ true
eqb_self n = grind (arith, nat_tests)

-- the test of equality has no direction
eqb_turned : (m n : ℕ) → eqb m n ≡ eqb n m
eqb_turned m n = grind (arith, nat_tests)

-- the map of the later lines, with the first one's index under its serial
pub found_more : (old new : ℕ → Option ℕ) (lines : List MessageLine) (i : ℕ) (x : MessageLine) → i < length lines
    → x ≡ get_or lines i x → ((n : ℕ) → new n ≡ cond (eqb x.message.serial n) (Some i) (old n))
    → FindsBySerial old lines (drop (i + 1) lines) → FindsBySerial new lines (drop i lines)
found_more old new lines i x lt is set h n =
    let one : drop i lines ≡ x ∷ drop (i + 1) lines =
    drop-cons lines i x lt ∙ ap (λ z. z ∷ drop (suc i) lines) (sym is) ∙ ap (λ k. x ∷ drop k lines) (sym (add-one i)) in
    let Found : List MessageLine → Option MessageLine = find (λ m. eqb n m.message.serial) in
    elim (cases_Bool (eqb x.message.serial n)) [
      | inl t ↦
          let there : eqb n x.message.serial ≡ true = eqb_turned n x.message.serial ∙ t in
          ap (λ (o : Option ℕ). o >>= slice_get lines) (set n ∙ ap (λ b. cond b (Some i) (old n)) t)
          ∙ slice_get-get_or lines i x lt ∙ ap Some (sym is)
          ∙ sym (ap Found one ∙ ap (λ b. cond b (Some x) (Found (drop (i + 1) lines))) there)
      | inr f ↦
          let other : eqb n x.message.serial ≡ false = eqb_turned n x.message.serial ∙ f in
          ap (λ (o : Option ℕ). o >>= slice_get lines) (set n ∙ ap (λ b. cond b (Some i) (old n)) f) ∙ h n
          ∙ sym (ap Found one ∙ ap (λ b. cond b (Some x) (Found (drop (i + 1) lines))) other)
    ]

-- a list in which a search fails has no such line
pub none_same : (m : MessageLine) (xs : List MessageLine) → find (same_serial m) xs ≡ None
    → list_any (same_serial m) xs ≡ false
none_same m [] e = refl
none_same m (x ∷ xs) e = elim (cases_Bool (same_serial m x)) [
  | inl t ↦ let k : Some x ≡ None = rw t at e in cc
  | inr f ↦ or_from (same_serial m x) _ f (none_same m xs (rw f at e))
]

-- a list in which a search succeeds has such a line
pub some_same : (m b : MessageLine) (xs : List MessageLine) → find (same_serial m) xs ≡ Some b
    → list_any (same_serial m) xs ≡ true
some_same m b [] e = cc
some_same m b (x ∷ xs) e = elim (cases_Bool (same_serial m x)) [
  | inl t ↦ rw t refl
  | inr f ↦ rw f (some_same m b xs (rw f at e))
]

-- equal lines have the same serial
equal_serial : (m x : MessageLine) → m ≡ x → same_serial m x ≡ true
equal_serial m x e = subst (λ (z : MessageLine). same_serial m z ≡ true) e (eqb_self m.message.serial)

-- a line with another serial is another line
other_line : (m x : MessageLine) → same_serial m x ≡ false → same_line m x ≡ false
other_line m x f = false_from_ne_true _ (λ t. let k = equal_serial m x ((message_tells m x).0 t) in cc)

-- no line equals one with a serial that the list lacks
no_line : (m : MessageLine) (xs : List MessageLine) → list_any (same_serial m) xs ≡ false
    → list_any (same_line m) xs ≡ false
no_line m [] e = refl
no_line m (x ∷ xs) e = elim (cases_Bool (same_serial m x)) [
  | inl t ↦ let k : true ≡ false = rw t at e in cc
  | inr f ↦ or_from (same_line m x) _ (other_line m x f) (no_line m xs (rw f at e))
]

-- the line that is found by its serial is in the list
line_there : (m : MessageLine) (xs : List MessageLine) → find (same_serial m) xs ≡ Some m
    → list_any (same_line m) xs ≡ true
line_there m [] e = cc
line_there m (x ∷ xs) e = elim (cases_Bool (same_serial m x)) [
  | inl t ↦ let k : Some x ≡ Some m = rw t at e in let is : m ≡ x = cc in rw ((message_tells m x).1 is) refl
  | inr f ↦ rw (other_line m x f) (line_there m xs (rw f at e))
]

-- lines after one with this serial have other serials
later_others : (m x : MessageLine) (xs : List MessageLine) → same_serial m x ≡ true
    → AllByRecursion (λ n. x.message.serial ≢ n.message.serial) xs → list_any (same_serial m) xs ≡ false
later_others m x [] t h = refl
later_others m x (y ∷ ys) t h = or_from (same_serial m y) _
    (false_from_ne_true _ (λ k. h.0 (grind (arith, nat_tests, t, k)))) (later_others m x ys t h.1)

-- if another line is found by the serial, and serials are apart, the line is not in the list
line_absent : (m b : MessageLine) (xs : List MessageLine) → AreSerialsApart xs → find (same_serial m) xs ≡ Some b
    → (b ≡ m → ⊥) → list_any (same_line m) xs ≡ false
line_absent m b [] h e other = refl
line_absent m b (x ∷ xs) h e other = elim (cases_Bool (same_serial m x)) [
  | inl t ↦
      let k : Some x ≡ Some b = rw t at e in let is : x ≡ b = cc in
      or_from (same_line m x) _ (false_from_ne_true _ (λ w. other (sym is ∙ sym ((message_tells m x).0 w))))
      (no_line m xs (later_others m x xs t h.0))
  | inr f ↦ or_from (same_line m x) _ (other_line m x f) (line_absent m b xs h.1 (rw f at e) other)
]

-- ---- the text of one line

-- the lines of the changes of some elements
abbrev pub text_by : {X : Type 0} → (X → Change) → (X → X → Bool) → List X → List X → List ℕ
text_by f same xs ys = changes_text (map f (missing_from same xs ys))

-- one more element is done
pub one_more_change : {X : Type 0} (f : X → Change) (same : X → X → Bool) (xs ys : List X) (i : ℕ) (x : X)
    (start out new : List ℕ) → i < length xs → x ≡ get_or xs i x → out ≡ start ++ text_by f same (take i xs) ys
    → new ≡ out ++ text_by f same (x ∷ []) ys → new ≡ start ++ text_by f same (take (i + 1) xs) ys
one_more_change {X} f same xs ys i x start out new lt is h e =
    let Kept : X → Bool = λ z. not (list_any (same z) ys) in
    let more : take (i + 1) xs ≡ take i xs ++ x ∷ [] =
    take_more xs i x lt ∙ ap (λ z. take i xs ++ z ∷ []) (sym is) in
    let apart : text_by f same (take i xs ++ x ∷ []) ys ≡ text_by f same (take i xs) ys ++ text_by f same (x ∷ []) ys =
    ap (λ (zs : List X). changes_text (map f zs)) (filter-append Kept (take i xs) (x ∷ []))
    ∙ ap changes_text (map-append f (filter Kept (take i xs)) (filter Kept (x ∷ [])))
    ∙ flat_map-append _ (map f (filter Kept (take i xs))) (map f (filter Kept (x ∷ []))) in
    rw (more, apart, e, h) (append_assoc start _ _)

-- what follows from a success
pub then_ok : {A E P Q : Type 0} (r : Result A E) → (P → Q) → OnOk r P → OnOk r Q
then_ok (Ok a) f h = f h
then_ok (Err e) f h = h

-- the line of one change is all that is added
one_line : (out new text : List ℕ) → new ≡ out ++ text → new ≡ out ++ (text ++ [])
one_line out new text e = e ∙ ap (λ (w : List ℕ). out ++ w) (sym (append-nil text))

-- a message that is gone
pub gone_text : (m : MessageLine) (after : List MessageLine) (out new : List ℕ)
    → find (same_serial m) after ≡ None → new ≡ out ++ change_text (change.Gone (change.Msg m))
    → new ≡ out ++ text_by (λ n. change.Gone (change.Msg n)) same_serial (m ∷ []) after
gone_text m after out new e written = rw (none_same m after e) (one_line out new _ written)

-- a message that is still there
pub kept_text : (m b : MessageLine) (after : List MessageLine) (out : List ℕ) → find (same_serial m) after ≡ Some b
    → out ≡ out ++ text_by (λ n. change.Gone (change.Msg n)) same_serial (m ∷ []) after
kept_text m b after out e = rw (some_same m b after e) (sym (append-nil out))

-- the change of a message, by what its serial finds
abbrev found_change : MessageLine → Option MessageLine → Change
found_change m o = elim o [ None ↦ change.New (change.Msg m) | Some was ↦ change.Moved was m ]

-- a message that is new
pub new_text : (m : MessageLine) (before : List MessageLine) (out new : List ℕ)
    → find (same_serial m) before ≡ None → new ≡ out ++ change_text (change.New (change.Msg m))
    → new ≡ out ++ text_by (arrival_change before) same_line (m ∷ []) before
new_text m before out new e written =
    let is : arrival_change before m ≡ change.New (change.Msg m) = ap (found_change m) e in
    rw (no_line m before (none_same m before e))
    (one_line out new _ (written ∙ ap (λ (x : Change). out ++ change_text x) (sym is)))

-- a message that is where it was
pub unmoved_text : (m b : MessageLine) (before : List MessageLine) (out : List ℕ)
    → find (same_serial m) before ≡ Some b → b ≡ m
    → out ≡ out ++ text_by (arrival_change before) same_line (m ∷ []) before
unmoved_text m b before out e is = rw (line_there m before (e ∙ ap Some is)) (sym (append-nil out))

-- a message that moved
pub moved_text : (m b : MessageLine) (before : List MessageLine) (out new : List ℕ) → AreSerialsApart before
    → find (same_serial m) before ≡ Some b → (b ≡ m → ⊥) → new ≡ out ++ change_text (change.Moved b m)
    → new ≡ out ++ text_by (arrival_change before) same_line (m ∷ []) before
moved_text m b before out new apart e other written =
    let is : arrival_change before m ≡ change.Moved b m = ap (found_change m) e in
    rw (line_absent m b before apart e other)
    (one_line out new _ (written ∙ ap (λ (x : Change). out ++ change_text x) (sym is)))
