-- A configuration with its drivers, and the commands that take no memory: those of `smx_tables`.
pub use Rattle.smx_tables.specs.Machine.{Machine, takes_no_memory}
