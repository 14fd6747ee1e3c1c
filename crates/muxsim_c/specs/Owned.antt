-- The memory that a handle owns.
use Rattle.std.specs.Prelude.{Option, None, Some}
use base.Fml.{Fml, ftrue, ffalse}
use denote.RawPtr.{Ptr, null_ptr, block_ptr}
use Rattle.std.specs.Box.Ownership.{box_owns}
use Rattle.std.specs.declared.alloc.Global.{Global}
use Rattle.std.specs.contracts.impls.GlobalAllocator.TheImpl.{ghosts}
use Rattle.smx_session.specs.Sessions.{State}
use Rattle.smx_session.specs.contracts.session.Session.{the_row}

-- a null handle has no session; any other has one, and owns the session's box
abbrev pub held : Global → Ptr → Option State → Fml
held a null_ptr None = ftrue
held a null_ptr (Some s) = ffalse
held a (block_ptr b o) None = ffalse
held a (block_ptr b o) (Some s) = box_owns (ghosts.dealloc_token a) the_row (block_ptr b o) s
