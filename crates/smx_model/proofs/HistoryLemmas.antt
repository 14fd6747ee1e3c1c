-- Legal histories: their prefixes, their replies are determined, and they are lawful.
use Rattle.smx_model.proofs.Common.{◌≡◌, ℕ, List, [], ◌∷◌, ◌++◌, map, refl, subst, arith, Command, Entry, DriverSpec}
use Rattle.smx_model.proofs.Common.{Reply, step, Configuration, empty, after, after_from, call_of, IsLegal, IsLegalFrom}
use Rattle.smx_model.proofs.Common.{IsLawful, IsLawfulThroughout}
use Rattle.std.proofs.lemmas.List.FromFn.{get_or-range_with_len, length-range_with_len}
use Rattle.smx_model.proofs.ConservationLemmas.{conserving, numbered_from_one}
use Rattle.smx_model.proofs.KeptLemmas.{always_is_kept}

-- a prefix of entries that are legal from a configuration is legal from it
prefix_from : (drivers : List DriverSpec) (c : Configuration) (xs ys : List Entry) → IsLegalFrom drivers c (xs ++ ys)
    → IsLegalFrom drivers c xs
prefix_from drivers c [] ys h = tt
prefix_from drivers c (e ∷ xs) ys h = (h.0, prefix_from drivers (step drivers c e.process e.command).0 xs ys h.1)

-- a prefix of a legal history is legal
pub prefix_legal : (drivers : List DriverSpec) (xs ys : List Entry) → IsLegal drivers (xs ++ ys) → IsLegal drivers xs
prefix_legal drivers xs ys h = prefix_from drivers empty xs ys h

-- one entry more is one step further, starting from any configuration
after_push_from : (drivers : List DriverSpec) (c : Configuration) (es : List Entry) (e : Entry)
    → after_from drivers c (es ++ e ∷ []) ≡ (step drivers (after_from drivers c es) e.process e.command).0
after_push_from drivers c [] e = refl
after_push_from drivers c (d ∷ es) e = after_push_from drivers (step drivers c d.process d.command).0 es e

-- one entry more is one step further, starting from the empty configuration
pub after_push : (drivers : List DriverSpec) (es : List Entry) (e : Entry)
    → after drivers (es ++ e ∷ []) ≡ (step drivers (after drivers es) e.process e.command).0
after_push drivers es e = after_push_from drivers empty es e

-- an entry with the reply of its command may follow, starting from any configuration
legal_push_from : (drivers : List DriverSpec) (c : Configuration) (es : List Entry) (e : Entry)
    → IsLegalFrom drivers c es → (step drivers (after_from drivers c es) e.process e.command).1 ≡ e.reply
    → IsLegalFrom drivers c (es ++ e ∷ [])
legal_push_from drivers c [] e h r = (r, tt)
legal_push_from drivers c (d ∷ es) e h r =
    (h.0, legal_push_from drivers (step drivers c d.process d.command).0 es e h.1 r)

-- an entry with the reply of its command may follow a legal history
pub legal_push : (drivers : List DriverSpec) (es : List Entry) (e : Entry)
    → IsLegal drivers es → (step drivers (after drivers es) e.process e.command).1 ≡ e.reply
    → IsLegal drivers (es ++ e ∷ [])
legal_push drivers es e h r = legal_push_from drivers empty es e h r

-- an entry is a call with a reply
abbrev entry_of : ℕ × Command → Reply → Entry
entry_of asked reply = record { process = asked.0; command = asked.1; reply = reply }

-- the step of a process's command
abbrev step_of : List DriverSpec → Configuration → ℕ × Command → Configuration × Reply
step_of drivers c asked = step drivers c asked.0 asked.1

-- entries that are legal from one configuration are equal if their calls are equal, in the same order
determined_from : (drivers : List DriverSpec) (c : Configuration) (xs ys : List Entry) → IsLegalFrom drivers c xs
    → IsLegalFrom drivers c ys → map call_of xs ≡ map call_of ys → xs ≡ ys
determined_from drivers c [] [] h k e = refl
determined_from drivers c [] (y ∷ ys) h k e = let differ : [] ≡ call_of y ∷ map call_of ys = e in absurd cc
determined_from drivers c (x ∷ xs) [] h k e = let differ : call_of x ∷ map call_of xs ≡ [] = e in absurd cc
determined_from drivers c (x ∷ xs) (y ∷ ys) h k e =
    grind (arith, determined_from drivers (step drivers c x.process x.command).0 xs ys h.1)

-- two legal histories of the same calls in the same order are equal
pub determined : (drivers : List DriverSpec) (xs ys : List Entry) → IsLegal drivers xs → IsLegal drivers ys
    → map call_of xs ≡ map call_of ys → xs ≡ ys
determined drivers xs ys h k e = determined_from drivers empty xs ys h k e

-- a legal history is lawful
pub lawful : (drivers : List DriverSpec) (history : List Entry) → IsLegal drivers history → IsLawful drivers history
lawful drivers history legal =
    grind (
      arith,
      always_is_kept drivers history,
      numbered_from_one drivers history legal,
      conserving drivers history legal,
      length-range_with_len,
      get_or-range_with_len,
    )

-- a legal history is lawful after each of its entries
pub lawful_throughout : (drivers : List DriverSpec) (history : List Entry) → IsLegal drivers history
    → IsLawfulThroughout drivers history
lawful_throughout drivers history legal xs ys e =
    lawful drivers xs (prefix_legal drivers xs ys (subst (IsLegal drivers) e legal))
