-- The fields of the configuration. No public clause needs this.
use Rattle.smx_config.specs.declared.config.Config.TheInside.{Inside}
use Rattle.smx_model.specs.FreedPlaces.{HaveFullPlacesMessages}
use Rattle.smx_model.specs.KeptConfigurations.{IsKept}
use Rattle.smx_tables.specs.Machine.{Machine}
use Rattle.smx_config.specs.Marking.{AreMarks, HasNoBit}
use Rattle.smx_config.specs.Ways.{AreHops}

-- the tables are the value that contracts see; the marks and the hops are not part of it
abbrev pub machine_of : Inside → Machine
machine_of c = c.tables

-- what holds of the fields between any two calls
pub record ConfigInvariant (c : Inside) : Type 0 where
  -- the configuration has the properties that every command keeps
  pub kept : IsKept c.tables.drivers c.tables.configuration
  -- each full place has messages, so a command that drops none frees no place
  pub filled : HaveFullPlacesMessages c.tables.configuration
  -- if a place has no run mark, and its first message has a next place, then the place waits for that next place, which
  -- is full and wanted
  pub marks : AreMarks c.tables.drivers c.tables.configuration c.marks
  -- the hops of this age lead where messages go next
  pub hops : AreHops c.tables.drivers c.tables.configuration c.hops
  -- no place has a run mark
  pub none : HasNoBit c.marks.run
