-- A configuration whose lists are in the order in which they are shown.
use Rattle.smx_model.specs.Configuration.{Configuration, fd_before, bind_before, route_before, place_before}
use Rattle.smx_model.specs.Configuration.{stream_before}
use Rattle.smx_model.specs.FlowOrder.{IsInOrder}
use Rattle.smx_model.specs.Ordered.{IsRising}

-- descriptors, bindings, routes, full places and hung-up streams rise, so they have no duplicates; the flow is in
-- order of places
pub record AreListsOrdered (c : Configuration) : Type 0 where
  pub fds : IsRising fd_before c.fds
  pub binds : IsRising bind_before c.binds
  pub routes : IsRising route_before c.routes
  pub fulls : IsRising place_before c.fulls
  pub hungs : IsRising stream_before c.hungs
  pub flow : IsInOrder c.flow
