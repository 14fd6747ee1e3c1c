-- Closing a descriptor that exists. No public clause needs this.
use Rattle.std.specs.Prelude.{ℕ, not, List, filter}
use Rattle.smx_types.specs.declared.driver.DriverSpec.{DriverSpec}
use Rattle.smx_model.specs.Commands.{done_outcome}
use Rattle.smx_model.specs.Configuration.{Configuration, is_fd}
use Rattle.smx_model.specs.Outcomes.{Outcome}

-- the descriptor is removed, and the configuration is swept
abbrev pub closing : List DriverSpec → Configuration → ℕ → ℕ → Outcome
closing drivers c process fd = done_outcome drivers c (record c { fds = filter (λ d. not (is_fd process fd d)) c.fds })
