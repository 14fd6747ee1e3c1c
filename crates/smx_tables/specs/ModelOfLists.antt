-- The configuration that the lists make.
use Rattle.std.specs.Prelude.{ℕ, List}
use Rattle.smx_types.specs.declared.driver.DriverSpec.{DriverSpec}
use Rattle.smx_tables.specs.declared.lists.Lists.{Lists}
use Rattle.smx_model.specs.Configuration.{Configuration}

-- the model's configuration with the values of these tables
abbrev pub configuration_of : Lists → Configuration
configuration_of l = record {
  fds = l.streams.fds;
  links = l.links.links;
  next_id = l.links.next_id;
  binds = l.binds;
  routes = l.routes;
  flow = l.queues.flow;
  fulls = l.queues.fulls;
  next_serial = l.next_serial;
  hungs = l.streams.hungs;
}

-- the number of drivers of the table of links, the number of minors of each driver, and the drivers of the table of
-- queues: no command changes them
abbrev pub sizes_of : Lists → ℕ × List ℕ × List DriverSpec
sizes_of l = (l.links.drivers, l.streams.minors, l.queues.drivers)
