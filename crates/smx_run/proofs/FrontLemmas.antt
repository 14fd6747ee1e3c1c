-- Numbers that are not fronts of the example: too early, past the end, or with another number of links. And drivers
-- that are not valid.
use Rattle.smx_run.proofs.Common.{◌≡◌, ℕ, ◌≤◌, List, [], ◌∷◌, take, length, refl, sym, ◌∙◌, arith}
use Rattle.smx_run.proofs.Common.{length-append, Command, Entry, Front}
use Rattle.std.proofs.Math.Seq.{take-append_seam}
use Rattle.smx_model.specs.DriverList.{IsDriverList}
use Rattle.smx_model.specs.Worked.Common.{OpenClone, Dup, ip, mux}
use Rattle.smx_model.specs.Worked.Reports.{drivers, opened, exited, copied}
use Rattle.smx_shared.specs.Seats.{IsBeginningOf}
use Rattle.smx_run.specs.Fronts.{IsFrontAfter}

-- the three entries of the example
abbrev whole : List Entry
whole = opened ∷ exited ∷ copied ∷ []

-- a beginning consists of the first entries, as many as it has
as_long : (before history : List Entry) → IsBeginningOf before history → before ≡ take (length before) history
as_long before history begins = grind (arith, take-append_seam before begins.0)

-- a beginning has no more entries than the history
no_longer : (before history : List Entry) → IsBeginningOf before history → length before ≤ length history
no_longer before history begins = grind (arith, length-append before begins.0)

-- the beginning of which a front with `entries` entries is the front
is_of : (process entries : ℕ) (program : List Command) (front : Front) → front.entries ≡ entries
    → (h : IsFrontAfter drivers whole process program front) → h.before ≡ take entries whole
is_of process entries program front same h = grind (arith, as_long, whole)

-- two entries are too early for the program of process 0, whose second command is the third entry
pub too_early : (front : Front) → front.entries ≡ 2 → IsFrontAfter drivers whole 0 (OpenClone ip ∷ Dup 0 ∷ []) front → ⊥
too_early front same h = grind (arith, is_of 0 2 _ front same h)

-- four entries are past the end of a history of three
pub past_the_end : (process : ℕ) (program : List Command) (front : Front) → front.entries ≡ 4
    → IsFrontAfter drivers whole process program front → ⊥
past_the_end process program front same h =
    let few : length h.before ≤ 3 = no_longer h.before whole h.begins in
    let long : length h.before ≡ 4 = sym h.numbers.entries ∙ same in
    absurd (omega (arith, few, long))

-- a front of three entries has no link, since there is no link after them
pub with_a_link : (process : ℕ) (program : List Command) (front : Front) → front.entries ≡ 3 → front.links ≡ 1
    → IsFrontAfter drivers whole process program front → ⊥
with_a_link process program front same link h = grind (arith, is_of process 3 program front same h)

-- two drivers have the same name
pub one_name : IsDriverList (mux ip 4 ∷ mux ip 4 ∷ []) → ⊥
one_name h = h.names 0 1 (mux ip 4) (omega arith) (omega arith) refl
