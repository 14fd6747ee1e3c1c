-- A handle may go to another thread if the box of its session may.
use base.Shift.{Keyless}
use denote.Builtin.{RawPtr}
use denote.Param.Send.{IsSend, owning_send, sendable}
use denote.RawPtr.{Ptr, null_ptr, block_ptr}
use Rattle.std.specs.Prelude.{None, Some, []}
use Rattle.std.specs.declared.alloc.Global.{Global}
use Rattle.std.specs.declared.option.Option.{Option}
use Rattle.std.proofs.alloc.Global.TheSendSync as global
use Rattle.std.proofs.boxed.Box.TheSendSync as box
use Rattle.std.below.std_heap.proofs.GlobalAllocator.TheSendSync.{the_frees}
use Rattle.std.specs.contracts.boxed.Box as Box
use Rattle.std.specs.contracts.alloc.Global as G-type
use Rattle.std.specs.contracts.impls.GlobalAllocator.TheImpl.{ghosts}
use Rattle.muxsim_c.specs.Owned.{held}
use Rattle.smx_session.specs.contracts.session.Session as S-type
use Rattle.smx_session.proofs.session.Session.TheSendSync as session
use Rattle.muxsim_c.specs.contracts.handle.Handle.{the_row, the_type}

boxed : IsSend (Box.the_row S-type.the_row G-type.the_row ghosts)
boxed = box.the_send S-type.the_row G-type.the_row ghosts session.the_send global.the_send the_frees

held_keyless : (a : Global) (p : Ptr) (v : Option S-type.the_row.Denot) → Keyless (held a p v)
held_keyless a null_ptr None = tt
held_keyless a null_ptr (Some x) = tt
held_keyless a (block_ptr b o) None = tt
held_keyless a (block_ptr b o) (Some x) = (boxed.owned (record { ptr = block_ptr b o; alloc = a; value = x }) []).1

pub send : IsSend the_row
send = let pointer : IsSend RawPtr = search sendable in owning_send the_type (pointer, (global.the_field_send, tt))
    (λ h. held_keyless h.alloc h.at h.value) (λ k h w. tt)
