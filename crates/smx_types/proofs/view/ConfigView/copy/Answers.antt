use Rattle.std.proofs.Common.{refl}
use Rattle.smx_types.proofs.view.ConfigView.copy.Goals as goal

pub returns : goal.returns
returns c =
    rw (
      c.in_ok-copy.ensures,
      c.in_ok-copy-2.ensures,
      c.in_ok-copy-3.ensures,
      c.in_ok-copy-4.ensures,
      c.in_ok-copy-5.ensures,
      c.in_ok-copy-6.ensures,
      c.in_ok-copy-7.ensures,
    ) refl
