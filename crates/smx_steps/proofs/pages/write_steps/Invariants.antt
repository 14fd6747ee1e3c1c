use Rattle.std.proofs.Common.{◌≤◌, ◌-◌, ℕ, List, [], length, take}
use Rattle.smx_types.specs.declared.driver.DriverSpec.{DriverSpec}
use Rattle.smx_trace.specs.Tracing.{IsNow}
use Rattle.smx_steps.specs.Stepping.{HasStepped}
use Rattle.smx_steps.proofs.pages.write_steps.Given as goal

abbrev pub invariant-steps : goal.invariant-steps
invariant-steps l = record {
  now : IsNow l.config l.before;
  number : l.number ≤ length l.entries;
  stepped : (drivers : List DriverSpec) (begun : List ℕ) → HasStepped drivers begun [] l.fn.config l.fn.out.items
      → HasStepped drivers begun (take l.number l.entries) l.config l.out.items;
}

abbrev pub decreases-steps : goal.decreases-steps
decreases-steps l = length l.entries - l.number
