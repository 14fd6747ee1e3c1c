use Rattle.smx_model.proofs.Common.{◌≡◌, true, false, is_some, refl, sym, ◌∙◌, lookup}
use Rattle.smx_addresses.specs.Keys.{is_key}
use Rattle.smx_addresses.proofs.BindingLemmas.{taken_either}
use Rattle.smx_addresses.proofs.bindings.Bindings.is_taken.Goals as goal

pub returns-then-contains_key : goal.returns-then-contains_key
returns-then-contains_key c =
    let a = c.args in
    let there : is_some (lookup (is_key (a.stream.driver, a.addr)) c.self.inside.minors.entries)
    ≡ true = sym c.contains_key.ensures ∙ c.if-contains_key.true in
    c.if-contains_key.true
    ∙ sym (taken_either _ _ _ a.stream.driver a.addr a.stream.minor c.self.view_is c.self.invariant ∙ rw there refl)

pub returns-else-contains_key : goal.returns-else-contains_key
returns-else-contains_key c =
    let a = c.args in
    let free : is_some (lookup (is_key (a.stream.driver, a.addr)) c.self.inside.minors.entries)
    ≡ false = sym c.contains_key.ensures ∙ c.if-contains_key.false in
    rw c.key_of.ensures at c.contains_key-else-contains_key.ensures
    ∙ sym (taken_either _ _ _ a.stream.driver a.addr a.stream.minor c.self.view_is c.self.invariant ∙ rw free refl)
