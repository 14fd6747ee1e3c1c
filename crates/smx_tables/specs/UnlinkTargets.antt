-- The links that a command may name, for both kinds of links. No public clause needs this.
use Rattle.std.specs.Prelude.{ℕ, Bool, ◌&&◌, not, ◌==◌, List, Result, Ok}
use Rattle.std.specs.List.{list_any}
use Rattle.smx_types.specs.declared.command.Which.{Which}
use Rattle.smx_types.specs.declared.command.Which.TheVariants as which
use Rattle.smx_types.specs.declared.driver.DriverSpec.{DriverSpec}
use Rattle.smx_types.specs.declared.link.Link.{Link}
use Rattle.smx_types.specs.declared.link.LinkKind.{LinkKind}
use Rattle.smx_types.specs.declared.link.LinkKind.TheVariants as kind
use Rattle.smx_types.specs.declared.reply.Fault.{Fault}
use Rattle.smx_types.specs.declared.reply.Fault.TheVariants.{Below, HungUp, NotMux, NoLink}
use Rattle.smx_types.specs.declared.stream.StreamId.{StreamId}
use Rattle.smx_model.specs.Commands.{done_outcome}
use Rattle.smx_model.specs.Configuration.{Configuration, same_stream}
use Rattle.smx_model.specs.DriverList.{is_mux}
use Rattle.smx_model.specs.Hangups.{is_hung}
use Rattle.smx_model.specs.Lookups.{mux_stream}
use Rattle.smx_model.specs.Removal.{without_links}
use Rattle.smx_model.specs.Outcomes.{Outcome, ◌>>=◌, refuse}
use Rattle.smx_model.specs.Standing.{is_persistent, is_below}

-- the refusals of linking that depend on the upper stream
abbrev pub may_have_links : List DriverSpec → Configuration → StreamId → Result (Unit {0}) Fault
may_have_links drivers c upper = do
  above ← refuse Below (is_below c.links upper)
  hung ← refuse HungUp (is_hung c.hungs upper)
  refuse NotMux (not (is_mux drivers upper.driver))

-- the command may remove the link: an ordinary link made through this stream, or a persistent link of its driver
abbrev pub may_unlink : LinkKind → StreamId → Link → Bool
may_unlink kind.Ordinary s l = not (is_persistent l) && same_stream l.ctl s
may_unlink kind.Persistent s l = is_persistent l && (l.ctl.driver == s.driver)

-- the command removes the link: each such link, or the one with this id
abbrev pub is_target : Which → LinkKind → StreamId → Link → Bool
is_target which.All k s l = may_unlink k s l
is_target (which.Id id) k s l = (l.id == id) && may_unlink k s l

-- refused if the command names an id, and none of these links has it; with `all` there need not be a link
abbrev pub are_there : Which → LinkKind → StreamId → List Link → Result (Unit {0}) Fault
are_there which.All k s links = Ok tt
are_there (which.Id id) k s links = refuse NoLink (not (list_any (is_target (which.Id id) k s) links))

-- the outcome of the command that removes links of this kind
abbrev pub unlinks : List DriverSpec → Configuration → ℕ → ℕ → Which → LinkKind → Outcome
unlinks drivers c process fd w k = do
  s ← mux_stream drivers c process fd
  there ← are_there w k s c.links
  done_outcome drivers c (without_links c (is_target w k s))
