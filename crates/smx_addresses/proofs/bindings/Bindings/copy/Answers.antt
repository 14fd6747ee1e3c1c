use Rattle.smx_model.proofs.Common.{sym, subst, ◌∙◌, Binding}
use Rattle.smx_addresses.specs.BindingLists.{address_of, IsBindingList}
use Rattle.smx_addresses.proofs.CopyLemmas.{binding_free, inserted_next}
use Rattle.smx_addresses.proofs.bindings.Bindings.copy.Goals as goal

pub bind-requires : goal.bind-requires
bind-requires c = rw c.loop-binding.invariant
    (binding_free c.deref-binding-items.result.now c.loop-binding.binding-index _
    (subst IsBindingList (sym c.deref-binding-items.ensures.value) c.in_ok-list.ensures.order)
    c.loop-binding-test.true)

pub loop-binding-preserved : goal.loop-binding-preserved
loop-binding-preserved c =
    let first : Binding = record { driver = 0; addr = 0; minor = 0 } in
    rw c.loop-binding.invariant at c.in_ok-bind.ensures.ok
    ∙ inserted_next address_of c.deref-binding-items.result.now c.loop-binding.binding-index first
    (subst IsBindingList (sym c.deref-binding-items.ensures.value) c.in_ok-list.ensures.order).rise
    c.loop-binding-test.true
