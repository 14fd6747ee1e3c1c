-- The bytes of an input determine the value that it spells, or its fault.
use Rattle.std.proofs.Common.{◌≡◌, ◌≢◌, ℕ, List, Result, Ok, Err}
use Rattle.std.specs.Prelude.{IfErr}
use Rattle.smx_types.specs.declared.version.Version.{Version}
use Rattle.smx_text.specs.Grammar.{Grammar, ReadsAny, Spells}
use Rattle.smx_text.specs.declared.text_fault.Cause.TheVariants as cause
use Rattle.smx_text.specs.declared.text_fault.TextFault.{TextFault}

-- two readings of one text are the same, unless memory runs out: what the laws of texts say
abbrev pub HasOneReading : {V K : Type 0} → (Version → Grammar V K) → Type 0
HasOneReading {V} {K} g = (bytes : List ℕ) (r s : Result V TextFault) → ReadsAny g bytes r → ReadsAny g bytes s
    → IfErr r (λ f. f.cause ≢ cause.NoMemory) → IfErr s (λ f. f.cause ≢ cause.NoMemory) → r ≡ s

-- an input spells only one value
pub one_value : {V K : Type 0} (g : Version → Grammar V K) → HasOneReading g
    → (bytes : List ℕ) (v w : Version) (x y : V)
    → Spells (g v) bytes x → Spells (g w) bytes y → x ≡ y
one_value {V} {K} g reading bytes v w x y h k =
    let one : Result V TextFault = Ok x in
    let other : Result V TextFault = Ok y in
    let same : one ≡ other = reading bytes one other (v, h, tt) (w, k, tt) tt tt in
    cc

-- an input that spells a value has no fault
pub no_fault : {V K : Type 0} (g : Version → Grammar V K) → HasOneReading g
    → (bytes : List ℕ) (v : Version) (x : V) (f : TextFault)
    → Spells (g v) bytes x → ReadsAny g bytes (Err f) → f.cause ≢ cause.NoMemory → ⊥
no_fault {V} {K} g reading bytes v x f h k known =
    let one : Result V TextFault = Ok x in
    let other : Result V TextFault = Err f in
    let same : one ≡ other = reading bytes one other (v, h, tt) k tt known in
    absurd cc

-- a text has only one fault
pub one_fault : {V K : Type 0} (g : Version → Grammar V K) → HasOneReading g → (bytes : List ℕ) (f e : TextFault)
    → ReadsAny g bytes (Err f) → ReadsAny g bytes (Err e) → f.cause ≢ cause.NoMemory → e.cause ≢ cause.NoMemory → f ≡ e
one_fault {V} {K} g reading bytes f e h k known known_too =
    let one : Result V TextFault = Err f in
    let other : Result V TextFault = Err e in
    let same : one ≡ other = reading bytes one other h k known known_too in
    cc
