use Rattle.std.proofs.Common.{arith, refl, sym, ◌≡◌, ◌≢◌, ◌∙◌, ap, ℕ, ◌<◌, [], ◌∷◌, List}
use Rattle.std.proofs.lemmas.Bool.{false≢true}
use Rattle.std.proofs.lemmas.List.{get_or_default}
use Rattle.std.proofs.lemmas.List.Elements.{AllWithin-more}
use Rattle.std.specs.List.{HoldsAt}
use Rattle.smx_types.specs.declared.reply.Fault.{Fault}
use Rattle.smx_types.specs.declared.reply.Fault.TheVariants as fault
use Rattle.smx_words.specs.Spelling.{fault_words}
use Rattle.smx_words.specs.Words.{line_of}
use Rattle.smx_words.proofs.reading.reply.fault_of.Goals as goal

-- all faults, in the order in which the loop compares them
abbrev listed : List Fault
listed =
    fault.BadDescriptor ∷ fault.Below ∷ fault.NotMux ∷ fault.AlreadyBelow ∷ fault.Cycle ∷ fault.TooManyLinks ∷
    fault.NoLink ∷ fault.NoDriver ∷ fault.NoMinor ∷ fault.TooManyDescriptors ∷ fault.AddressInUse ∷ fault.Unbound ∷
    fault.Unrouted ∷ fault.Full ∷ fault.Empty ∷ fault.BadSize ∷ fault.HungUp ∷ []

-- each fault is one of them
abbrev is_listed : (f : Fault) → (k : ℕ) × (k < 17) × HoldsAt (λ g. g ≡ f) listed k
is_listed fault.BadDescriptor = (0, omega arith, λ d. refl)
is_listed fault.Below = (1, omega arith, λ d. refl)
is_listed fault.NotMux = (2, omega arith, λ d. refl)
is_listed fault.AlreadyBelow = (3, omega arith, λ d. refl)
is_listed fault.Cycle = (4, omega arith, λ d. refl)
is_listed fault.TooManyLinks = (5, omega arith, λ d. refl)
is_listed fault.NoLink = (6, omega arith, λ d. refl)
is_listed fault.NoDriver = (7, omega arith, λ d. refl)
is_listed fault.NoMinor = (8, omega arith, λ d. refl)
is_listed fault.TooManyDescriptors = (9, omega arith, λ d. refl)
is_listed fault.AddressInUse = (10, omega arith, λ d. refl)
is_listed fault.Unbound = (11, omega arith, λ d. refl)
is_listed fault.Unrouted = (12, omega arith, λ d. refl)
is_listed fault.Full = (13, omega arith, λ d. refl)
is_listed fault.Empty = (14, omega arith, λ d. refl)
is_listed fault.BadSize = (15, omega arith, λ d. refl)
is_listed fault.HungUp = (16, omega arith, λ d. refl)

-- src/reading/reply.rt:136:5
pub loop-fault-preserved : goal.loop-fault-preserved
loop-fault-preserved c =
    AllWithin-more (λ f. c.args.line.now ≢ line_of (fault_words f)) listed 0 c.loop-fault.fault-index
    c.loop-fault.invariant (λ d e. false≢true (c.if-is.ensures.1 (
    e
    ∙ ap (λ f. line_of (fault_words f)) (get_or_default listed c.loop-fault.fault-index d _ c.loop-fault-test.true)
    ∙ sym c.fault_text.ensures
    )))

-- src/reading/reply.rt:133:1
pub returns : goal.returns
returns c = λ x fits e.
    let there = is_listed x in
    c.loop-fault.invariant there.0 x (omega arith) (omega (arith, there.1, c.loop-fault-test.false))
    (e ∙ ap (λ f. line_of (fault_words f)) (sym (there.2 x)))
