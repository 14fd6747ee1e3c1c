use Rattle.std.proofs.Common.{◌≡◌, ◌≢◌, ◌<◌, ◌≤◌, ◌*◌, ◌+◌, ◌/◌, ◌%◌, ◌^◌, length, arith, rules, ℕ, List, get_or, ◌∙◌}
use Rattle.std.proofs.Common.{subst, w64}
use Rattle.std.specs.Int.{trailing_zeros}
use Rattle.std.proofs.lemmas.List.{get_or_default}
use Rattle.smx_queues.proofs.BitLemmas.{IsFound, found_here, found_later, none_later}
use Rattle.smx_queues.proofs.bits.Bits.first_from.Goals as goal
use Rattle.smx_queues.proofs.bits.Bits.first_from.Goals.{After-index, After-first_word-next, After-index-2}

-- the word of the number
read : (c : After-index) → c.index.result.now ≡ get_or c.self.inside.words.items (c.args.n / 64) 0
read c = c.index.ensures ∙ get_or_default c.self.inside.words.items (c.args.n / 64) c.index.result.now 0
    (omega (arith, c.if-word-len.false, c.len.ensures, c.self.inside.words.ok.0))

-- the words before the next one that has a mark have none
zeros : (c : After-first_word-next) → (w : ℕ) → c.args.n / 64 + 1 ≤ w → w < c.first_word-next.result
    → get_or c.self.inside.words.items w 0 ≡ 0
zeros c = subst (λ (xs : List ℕ). (w : ℕ) → c.args.n / 64 + 1 ≤ w → w < c.first_word-next.result
    → get_or xs w 0 ≡ 0) c.deref.ensures.value c.first_word-next.ensures.zero

-- the least mark is in the word of the number
here : (c : After-index) → c.index.result.now < 2 ^ 64 → 0 < c.index.result.now / 2 ^ (c.args.n % 64)
    → c.index.result.now / 2 ^ (c.args.n % 64) < 2 ^ 64
    → IsFound c.self.inside.words.items c.args.n
    (c.args.n + trailing_zeros w64 (c.index.result.now / 2 ^ (c.args.n % 64)))
here c fits some fits_too = found_here c.self.inside.words.items c.args.n c.index.result.now (read c) fits some fits_too

-- the least mark is in the next word that has one
later : (c : After-index-2) → c.index.result.now ≡ get_or c.self.inside.words.items (c.args.n / 64) 0
    → ((w : ℕ) → c.args.n / 64 + 1 ≤ w → w < c.first_word-next.result → get_or c.self.inside.words.items w 0 ≡ 0)
    → c.index-2.result.now < 2 ^ 64 → IsFound c.self.inside.words.items c.args.n
    (64 * c.first_word-next.result + trailing_zeros w64 c.index-2.result.now)
later c first empty fits =
    let below : c.first_word-next.result < length c.self.inside.words.items =
    omega (arith, c.if-next-len.false, c.len-2.ensures, c.self.inside.words.ok.0) in
    let there : c.index-2.result.now ≡ get_or c.self.inside.words.items c.first_word-next.result 0 = c.index-2.ensures
    ∙ get_or_default c.self.inside.words.items c.first_word-next.result c.index-2.result.now 0 below in
    let some : get_or c.self.inside.words.items c.first_word-next.result 0 ≢ 0 =
    subst (λ (xs : List ℕ). c.first_word-next.result < length xs → get_or xs c.first_word-next.result 0 ≢ 0)
    c.deref.ensures.value c.first_word-next.ensures.some below in
    found_later c.self.inside.words.items c.args.n c.index.result.now c.first_word-next.result c.index-2.result.now
    first c.if-rest-ne0.false empty c.first_word-next.ensures.low there (omega (arith, there, some)) fits

pub returns-then-rest-ne0 : goal.returns-then-rest-ne0
returns-then-rest-ne0 c =
    let g = goal.at.returns-then-rest-ne0 c in
    let found = here g.After-index (search rules) (omega (arith, c.if-rest-ne0.true)) (search rules) in
    rw (← c.self.view_is) (record {
      below = c.self.invariant.below _ found.marked;
      from = found.from;
      marked = found.marked;
      least = found.least;
      none = tt;
    })

pub returns-then-next-len-clause-none : goal.returns-then-next-len-clause-none
returns-then-next-len-clause-none c =
    let g = goal.at.returns-then-next-len-clause-none c in
    rw (← c.self.view_is) (none_later c.self.inside.words.items c.args.n c.index.result.now c.first_word-next.result
    (read g.After-index) c.if-rest-ne0.false (zeros g.After-first_word-next)
    (omega (arith, c.if-next-len.true, c.len-2.ensures)))

pub returns : goal.returns
returns c =
    let g = goal.at.returns c in
    let found = later g.After-index-2 (read g.After-index) (zeros g.After-first_word-next) (search rules) in
    rw (← c.self.view_is) (record {
      below = c.self.invariant.below _ found.marked;
      from = found.from;
      marked = found.marked;
      least = found.least;
      none = tt;
    })
