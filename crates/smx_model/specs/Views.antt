-- The view of a configuration: drivers by name, and its lists in the order in which they are kept.
use Rattle.std.specs.Prelude.{List, map}
use Rattle.smx_types.specs.declared.driver.DriverSpec.{DriverSpec}
use Rattle.smx_types.specs.declared.link.Binding.{Binding}
use Rattle.smx_types.specs.declared.link.Link.{Link}
use Rattle.smx_types.specs.declared.link.Route.{Route}
use Rattle.smx_types.specs.declared.stream.Descriptor.{Descriptor}
use Rattle.smx_types.specs.declared.stream.Place.{Place}
use Rattle.smx_types.specs.declared.stream.StreamId.{StreamId}
use Rattle.smx_types.specs.declared.view.BindingLine.{BindingLine}
use Rattle.smx_types.specs.declared.view.ConfigView.{ConfigView}
use Rattle.smx_types.specs.declared.view.DescriptorLine.{DescriptorLine}
use Rattle.smx_types.specs.declared.view.FullLine.{FullLine}
use Rattle.smx_types.specs.declared.view.HungLine.{HungLine}
use Rattle.smx_types.specs.declared.view.LinkLine.{LinkLine}
use Rattle.smx_types.specs.declared.view.MessageLine.{MessageLine}
use Rattle.smx_types.specs.declared.view.RouteLine.{RouteLine}
use Rattle.smx_model.specs.Configuration.{Configuration, QueuedMessage}
use Rattle.smx_model.specs.DriverList.{name_of}

-- a descriptor, with its driver by name
abbrev pub view_of_fd : List DriverSpec → Descriptor → DescriptorLine
view_of_fd drivers d =
    record { process = d.process; fd = d.fd; driver = name_of drivers d.stream.driver; minor = d.stream.minor }

-- a link, with both drivers by name
abbrev pub view_of_link : List DriverSpec → Link → LinkLine
view_of_link drivers l = record {
  id = l.id;
  ctl_driver = name_of drivers l.ctl.driver;
  ctl_minor = l.ctl.minor;
  lower_driver = name_of drivers l.lower.driver;
  lower_minor = l.lower.minor;
  kind = l.kind;
}

-- a binding, with its driver by name
abbrev pub view_of_bind : List DriverSpec → Binding → BindingLine
view_of_bind drivers b = record { driver = name_of drivers b.driver; addr = b.addr; minor = b.minor }

-- a route, with its driver by name
abbrev pub view_of_route : List DriverSpec → Route → RouteLine
view_of_route drivers r = record { driver = name_of drivers r.driver; addr = r.addr; id = r.id }

-- a queued message, with the driver of its place by name
abbrev pub view_of_message : List DriverSpec → QueuedMessage → MessageLine
view_of_message drivers h = record {
  driver = name_of drivers h.place.stream.driver;
  minor = h.place.stream.minor;
  side = h.place.side;
  message = h.message;
}

-- a full place, with its driver by name
abbrev pub view_of_full : List DriverSpec → Place → FullLine
view_of_full drivers p = record { driver = name_of drivers p.stream.driver; minor = p.stream.minor; side = p.side }

-- a hung-up stream, with its driver by name
abbrev pub view_of_hung : List DriverSpec → StreamId → HungLine
view_of_hung drivers s = record { driver = name_of drivers s.driver; minor = s.minor }

-- both numbers, and one line for each element of each list; two configurations are compared by their views
abbrev pub view : List DriverSpec → Configuration → ConfigView
view drivers c = record {
  next_id = c.next_id;
  next_serial = c.next_serial;
  fds = map (view_of_fd drivers) c.fds;
  links = map (view_of_link drivers) c.links;
  binds = map (view_of_bind drivers) c.binds;
  routes = map (view_of_route drivers) c.routes;
  msgs = map (view_of_message drivers) c.flow;
  fulls = map (view_of_full drivers) c.fulls;
  hungs = map (view_of_hung drivers) c.hungs;
}
