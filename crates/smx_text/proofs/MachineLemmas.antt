-- A text is read by a machine that accepts one line after another. The lemmas below hold for any kind of text.
use Rattle.smx_text.proofs.Common.{◌≢◌, refl, sym, ap, subst, ◌∙◌, map, append_assoc, inl, inr, AllByRecursion, ◌⊎◌}
use Rattle.smx_text.proofs.Common.{append-nil, AreWords, Grammar, IsOneLine, header, line_text, IsBegun, IsNoLine}
use Rattle.std.proofs.Common.{◌≡◌, ℕ, Bool, true, false, List, [], ◌∷◌, ◌++◌}
use Rattle.smx_words.proofs.DecidedLemmas.{same_or_not}
use Rattle.smx_text.specs.declared.text_fault.Cause.TheVariants as cause
use Rattle.smx_text.specs.Grammar.{GoesOn}
use Rattle.smx_text.specs.Reading.{AddsLine, RefusesLine}
use Rattle.smx_text.proofs.EachLemmas.{all_left, all_push}
use Rattle.smx_text.proofs.GrammarLemmas.{IsWellMade, refuses}
use Rattle.smx_text.proofs.HasReadingLemmas.{Decision, HasReading, has_reading}

-- A machine that reads lines of K. Its drafts, of type D, are what was read so far of a value of V.
pub record Machine (V K D : Type 0) : Type 1 where
  -- the draft before the first line
  pub start : D
  -- the lines of a draft
  pub lines : D → List K
  -- the line may follow
  pub takes : D → K → Bool
  -- the limit for lines of this kind is reached
  pub is_full : D → K → Bool
  -- the draft with one more line
  pub with_line : D → K → D
  -- the draft is within the limits
  pub IsWithin : D → Type 0
  -- the draft of all lines of a value
  pub whole : V → D
  -- the shortest value that begins with a draft's lines, and the lines that it has after them
  pub shortest : D → V
  pub still : D → List K

module _ {V K D : Type 0} (m : Machine V K D) (end : K) where
  -- the draft after these lines
  abbrev pub after : D → List K → D
  after d [] = d
  after d (k ∷ ks) = after (m.with_line d k) ks

  -- each of these lines is accepted after those before it, and none is the end
  abbrev pub Accepts : D → List K → Type 0
  Accepts d [] = Unit {0}
  Accepts d (k ∷ ks) = (m.takes d k ≡ true) × (k ≢ end) × Accepts (m.with_line d k) ks

  -- these lines are accepted, and lead from one draft to the other
  abbrev pub Leads : D → List K → D → Type 0
  Leads d ks e = Accepts d ks × (after d ks ≡ e)

  -- lines that lead from draft to draft lead from the first to the last when joined
  pub joined : (d e f : D) (ks ls : List K) → Leads d ks e → Leads e ls f → Leads d (ks ++ ls) f
  joined d e f [] ls h k = rw h.1 k
  joined d e f (x ∷ ks) ls h k =
      let more = joined (m.with_line d x) e f ks ls (h.0.2, h.1) k in ((h.0.0, h.0.1, more.0), more.1)

  -- lines of one kind, each of which appends its value to those of its kind, append all their values
  pub each : {X : Type 0} (line_of : X → K) (put : List X → D)
      → ((xs : List X) (x : X) → (m.takes (put xs) (line_of x) ≡ true) × (line_of x ≢ end)
      × (m.with_line (put xs) (line_of x) ≡ put (xs ++ x ∷ [])))
      → (xs ys : List X) → Leads (put xs) (map line_of ys) (put (xs ++ ys))
  each line_of put one xs [] = (tt, ap put (sym (append-nil xs)))
  each line_of put one xs (y ∷ ys) =
      let first = one xs y in
      let more = rw (append_assoc, ← first.2) at (each line_of put one (xs ++ y ∷ []) ys) in
      ((first.0, first.1, more.0), more.1)

  -- such lines and more lines lead to a draft, if the other lines lead to it after all the values
  pub group : {X : Type 0} (line_of : X → K) (put : List X → D)
      → ((xs : List X) (x : X) → (m.takes (put xs) (line_of x) ≡ true) × (line_of x ≢ end)
      × (m.with_line (put xs) (line_of x) ≡ put (xs ++ x ∷ [])))
      → (xs : List X) (rest : List K) (e : D) → Leads (put xs) rest e → Leads (put []) (map line_of xs ++ rest) e
  group line_of put one xs rest e later =
      joined (put []) (put xs) e (map line_of xs) rest (each line_of put one [] xs) later

-- The machine reads the texts of this grammar.
pub record IsReader {V K D : Type 0} (g : Grammar V K) (m : Machine V K D) : Type 0 where
  pub no_lines : m.lines m.start ≡ []
  pub starts_within : m.IsWithin m.start
  -- an accepted line
  pub longer : (d : D) (k : K) → m.takes d k ≡ true → k ≢ g.end → m.lines (m.with_line d k) ≡ m.lines d ++ k ∷ []
  pub within_before : (d : D) (k : K) → m.takes d k ≡ true → m.IsWithin (m.with_line d k)
      → m.IsWithin d × (m.is_full d k ≡ false)
  pub within_after : (d : D) (k : K) → m.takes d k ≡ true → m.is_full d k ≡ false → m.IsWithin d
      → m.IsWithin (m.with_line d k)
  -- the lines of a value
  pub leads : (v : V) → Leads m g.end m.start (g.body v) (m.whole v)
  pub ends : (v : V) → m.takes (m.whole v) g.end ≡ true
  pub fits : (v : V) → g.IsAllowed v → AllByRecursion g.FitsLine (g.body v)
  pub within : (v : V) → g.IsAllowed v → m.IsWithin (m.whole v)
  pub value : (v : V) → g.IsAllowed v → m.shortest (m.whole v) ≡ v
  -- the shortest value
  pub completes : (d : D) → g.body (m.shortest d) ≡ m.lines d ++ m.still d
  pub no_more : (d : D) → m.takes d g.end ≡ true → m.still d ≡ []
  pub allowed : (d : D) → m.IsWithin d → AllByRecursion g.FitsLine (m.lines d) → g.IsAllowed (m.shortest d)
  pub end_has_room : (d : D) → m.is_full d g.end ≡ false

-- A machine that reads the texts of this grammar is at this draft after these lines.
pub record IsAt {V K D : Type 0} (g : Grammar V K) (m : Machine V K D) (ls : List K) (d : D) : Type 0 where
  pub reader : IsReader g m
  pub comes : Leads m g.end m.start ls d

module _ {V K D : Type 0} {g : Grammar V K} {m : Machine V K D} (of : IsReader g m) where
  -- each of these lines fits
  abbrev AreFit : List K → Type 0
  AreFit ls = AllByRecursion g.FitsLine ls

  -- if joined lines are accepted, so are the first ones
  first_part : (d : D) (ks ls : List K) → Accepts m g.end d (ks ++ ls) → Accepts m g.end d ks
  first_part d [] ls h = tt
  first_part d (k ∷ ks) ls h = (h.0, h.1, first_part (m.with_line d k) ks ls h.2)

  -- if joined lines lead to a draft, the others lead to it from the draft after the first ones
  rest_leads : (d e f : D) (ks ls : List K) → Leads m g.end d ks e → Leads m g.end d (ks ++ ls) f
      → Leads m g.end e ls f
  rest_leads d e f [] ls h k = rw (← h.1) k
  rest_leads d e f (x ∷ ks) ls h k = rest_leads (m.with_line d x) e f ks ls (h.0.2, h.1) (k.0.2, k.1)

  -- accepted lines are appended to those of the draft
  lines_after : (d e : D) (ks : List K) → Leads m g.end d ks e → m.lines e ≡ m.lines d ++ ks
  lines_after d e [] h = rw h.1 (sym (append-nil (m.lines e)))
  lines_after d e (k ∷ ks) h = lines_after (m.with_line d k) e ks (h.0.2, h.1)
      ∙ rw (of.longer d k h.0.0 h.0.1) (append_assoc (m.lines d) (k ∷ []) ks)

  -- if accepted lines lead to a draft within the limits, they start from one
  within_all : (d e : D) (ks : List K) → Leads m g.end d ks e → m.IsWithin e → m.IsWithin d
  within_all d e [] h within = rw h.1 within
  within_all d e (k ∷ ks) h within =
      (of.within_before d k h.0.0 (within_all (m.with_line d k) e ks (h.0.2, h.1) within)).0

  -- the lines of a value, as these lines, lead to the draft of that value
  value_leads : (v : V) (ls : List K) → g.body v ≡ ls → Leads m g.end m.start ls (m.whole v)
  value_leads v ls e = subst (λ (ks : List K). Leads m g.end m.start ks (m.whole v)) e (of.leads v)

  -- the line after some lines of a list and its end is the end, or a line of the list
  split_end : (xs ls more : List K) (k : K) → xs ++ g.end ∷ [] ≡ ls ++ k ∷ more
      → ((k ≡ g.end) × (ls ≡ xs)) ⊎ ((rest : List K) × (xs ≡ ls ++ k ∷ rest))
  split_end [] [] more k e = inl (cc, refl)
  split_end [] (l ∷ []) more k e = absurd cc
  split_end [] (l ∷ n ∷ ls) more k e = absurd cc
  split_end (x ∷ xs) [] more k e = let same : x ≡ k = cc in inr (xs, ap (λ (y : K). y ∷ xs) same)
  split_end (x ∷ xs) (l ∷ ls) more k e =
      let same : x ≡ l = cc in
      let rest : xs ++ g.end ∷ [] ≡ ls ++ k ∷ more = cc in
      elim (split_end xs ls more k rest) [
        | inl (is, all) ↦ inl (is, cc (same, all))
        | inr (rest, all) ↦ inr (rest, cc (same, all))
      ]

  -- before its first line, a text is a prefix of some allowed value
  pub nothing_begun : IsBegun g []
  nothing_begun = (
    m.shortest m.start,
    m.still m.start,
    of.allowed m.start of.starts_within (rw of.no_lines tt),
    of.completes m.start ∙ ap (λ (ls : List K). ls ++ m.still m.start) of.no_lines,
  )

-- a reader whose machine is at this draft
module _ {V K D : Type 0} {g : Grammar V K} {m : Machine V K D} {ls : List K} {d : D} (at : IsAt g m ls d) where
  -- the lines of the draft are these lines
  lines_are : m.lines d ≡ ls
  lines_are = lines_after at.reader m.start d ls at.comes ∙ ap (λ (ks : List K). ks ++ ls) at.reader.no_lines

  -- with an accepted line other than the end, the lines are those before it and then this line
  next_is : (k : K) → m.takes d k ≡ true → k ≢ g.end → m.lines (m.with_line d k) ≡ ls ++ k ∷ []
  next_is k may other = at.reader.longer d k may other ∙ ap (λ (ks : List K). ks ++ k ∷ []) lines_are

  -- if a value has these lines and then others, the others lead from the draft to that of the value
  goes_on : (v : V) (more : List K) → g.body v ≡ ls ++ more → Leads m g.end d more (m.whole v)
  goes_on v more e = rest_leads at.reader m.start d (m.whole v) ls more at.comes (value_leads at.reader v _ e)

  -- a line that follows these in a value is accepted, and is within the limit if the value is allowed
  follows : (v : V) (k : K) → GoesOn g v ls k
      → (m.takes d k ≡ true) × (g.IsAllowed v → m.is_full d k ≡ false)
  follows v k (more, e) = elim (split_end at.reader (g.body v) ls more k e) [
    | inl (is, all) ↦
        let same : d ≡ m.whole v = sym at.comes.1 ∙ (value_leads at.reader v ls (sym all)).1 in
        rw (is, same) (at.reader.ends v, λ allowed. at.reader.end_has_room (m.whole v))
    | inr (rest, all) ↦
        let goes = goes_on v (k ∷ rest) all in (
          goes.0.0,
          λ allowed. (at.reader.within_before d k goes.0.0
              (within_all at.reader (m.with_line d k) (m.whole v) rest (goes.0.2, goes.1)
              (at.reader.within v allowed))).1,
        )
  ]

  -- if the lines are a prefix of an allowed value's lines, the draft is within the limits, and the lines fit
  began : IsBegun g ls → m.IsWithin d × AreFit at.reader ls
  began (v, more, allowed, e) = (
    within_all at.reader d (m.whole v) more (goes_on v more e) (at.reader.within v allowed),
    all_left g.FitsLine ls more (subst (AreFit at.reader) e (at.reader.fits v allowed)),
  )

  -- a line that the draft doesn't accept is refused with `Form`
  pub misplaced : (k : K) → m.takes d k ≡ false → RefusesLine g ls k cause.Form
  misplaced k never (v, goes) = let may = (follows v k goes).0 in absurd (cc (may, never))

  -- a line that the draft accepts but that is over the limit is refused with `Many`
  pub too_many : (k : K) → m.takes d k ≡ true → m.is_full d k ≡ true → RefusesLine g ls k cause.Many
  too_many k may full = (
    (
      m.shortest next,
      (m.still next ++ g.end ∷ [], rw (at.reader.completes next, next_is k may other) (simp append_assoc)),
    ),
    λ v allowed goes. let room = (follows v k goes).1 allowed in absurd (cc (room, full)),
  ) where
    next : D
    next = m.with_line d k

    other : k ≢ g.end
    other e = let room : m.is_full d k ≡ false = rw e (at.reader.end_has_room d) in absurd (cc (room, full))

  -- lines and an accepted line within the limit, other than the end, are a prefix of an allowed value
  pub longer_begun : (k : K) → IsBegun g ls → m.takes d k ≡ true → m.is_full d k ≡ false → g.FitsLine k
      → k ≢ g.end → IsBegun g (ls ++ k ∷ [])
  longer_begun k begun may room fits other =
      let own = began begun in
      let all = next_is k may other in
      let next = m.with_line d k in (
        m.shortest next,
        m.still next,
        at.reader.allowed next (at.reader.within_after d k may room own.0)
            (rw all (all_push g.FitsLine ls k own.1 fits)),
        at.reader.completes next ∙ ap (λ (ks : List K). ks ++ m.still next) all,
      )

  -- if the draft accepts the end, its lines are all the lines of an allowed value
  pub finished : IsBegun g ls → m.takes d g.end ≡ true → g.IsAllowed (m.shortest d) × (g.body (m.shortest d) ≡ ls)
  finished begun may =
      let own = began begun in (
        at.reader.allowed d own.0 (rw lines_are own.1),
        at.reader.completes d ∙ rw (at.reader.no_more d may, lines_are) (append-nil ls),
      )

-- an accepted line within the limit, other than the end, becomes the last line of a draft
pub adds : {V K D : Type 0} {g : Grammar V K} {m : Machine V K D} {d e : D} → IsAt g m (m.lines d) d → (k : K)
    → e ≡ m.with_line d k → IsBegun g (m.lines d) → m.takes d k ≡ true → m.is_full d k ≡ false → g.FitsLine k
    → k ≢ g.end → AddsLine g (m.lines d) k (m.lines e)
adds {g = g} {m = m} {d = d} at k same begun may room fits other =
    let all = ap m.lines same ∙ at.reader.longer d k may other in
    (all, subst (IsBegun g) (sym all) (longer_begun at k begun may room fits other))

-- ---- all texts

-- a text is that of a line that fits, or spells no line that may follow these lines
abbrev pub IsLineOrNot : {V K : Type 0} → Grammar V K → List K → List ℕ → Type 0
IsLineOrNot {V} {K} g ls text = ((k : K) × g.FitsLine k × (text ≡ line_text g k)) ⊎ IsNoLine g ls text

module _ {V K D : Type 0} {g : Grammar V K} {m : Machine V K D} (of : IsReader g m) where
  -- the text is well made if its words determine a line: its lines determine the value
  pub well_made : IsOneLine (header g) → ((k : K) → g.FitsLine k → AreWords (g.line_words k)) → g.FitsLine g.end
      → ((k l : K) → g.FitsLine k → g.FitsLine l → g.line_words k ≡ g.line_words l → k ≡ l) → IsWellMade g
  well_made header_line are_words fits_end words_apart = record {
    header_line = header_line;
    are_words = are_words;
    words_apart = words_apart;
    fits = of.fits;
    fits_end = fits_end;
    end_is_last = λ v ls more e.
        let all = value_leads of v (ls ++ g.end ∷ more) e in
        (rest_leads of m.start _ (m.whole v) ls (g.end ∷ more) (first_part of m.start ls (g.end ∷ more) all.0, refl)
        all).0.1 refl;
    one_value = λ v w allowed also e.
        sym (again v allowed) ∙ ap (λ (ks : List K). m.shortest (after m g.end m.start ks)) e ∙ again w also;
  } where
    again : (v : V) → g.IsAllowed v → m.shortest (after m g.end m.start (g.body v)) ≡ v
    again v allowed = ap m.shortest (of.leads v).1 ∙ of.value v allowed

  -- after a prefix of the lines of an allowed value, any text is decided
  decides : IsWellMade g → ((ls : List K) (text : List ℕ) → text ≢ line_text g g.end → IsLineOrNot g ls text)
      → (ls : List K) → IsBegun g ls → (text : List ℕ) → Decision g ls text
  decides made read ls begun text = elim (same_or_not text (line_text g g.end)) [
    | inl end ↦ at_end (m.takes d g.end) refl end
    | inr other ↦ elim (read ls text other) [
      | inl (k, fits, is) ↦
          judged k fits is (λ e. other (is ∙ ap (line_text g) e)) (m.takes d k) (m.is_full d k) refl refl
      | inr none ↦ inr (inl none)
    ]
  ] where
    d : D
    d = after m g.end m.start ls

    at : IsAt g m ls d
    at = let (v, more, allowed, e) = begun in
        record { reader = of; comes = (first_part of m.start ls more (value_leads of v (ls ++ more) e).0, refl) }

    no_line : (k : K) → g.FitsLine k → text ≡ line_text g k → m.takes d k ≡ false → IsNoLine g ls text
    no_line k fits is never = refuses made ls k text fits is cause.Form (misplaced at k never)

    at_end : (b : Bool) → m.takes d g.end ≡ b → text ≡ line_text g g.end → Decision g ls text
    at_end true may end = let all = finished at begun may in inr (inr (inr (end, m.shortest d, all.0, all.1)))
    at_end false never end = inr (inl (no_line g.end made.fits_end end never))

    judged : (k : K) → g.FitsLine k → text ≡ line_text g k → k ≢ g.end → (b c : Bool) → m.takes d k ≡ b
        → m.is_full d k ≡ c → Decision g ls text
    judged k fits is other true true may full =
        let many = too_many at k may full in inr (inr (inl (k, is, fits, many.0, many.1)))
    judged k fits is other true false may room = inl (k, is, longer_begun at k begun may room fits other)
    judged k fits is other false c never full = inr (inl (no_line k fits is never))

  -- any bytes spell a value, or have a first fault other than out of memory
  pub reads : IsWellMade g → ((ls : List K) (text : List ℕ) → text ≢ line_text g g.end → IsLineOrNot g ls text)
      → (bytes : List ℕ) → HasReading g bytes
  reads made read bytes = has_reading g made (decides made read) (nothing_begun of) bytes
