pub mod QueueTable
pub mod Chains
pub mod Slots
pub mod PlaceLists
pub mod FlowTables
pub mod Bits
pub mod Rings
