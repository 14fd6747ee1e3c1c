pub mod DescriptorRows
pub mod StreamTables
pub mod HungRows
pub mod RecordGrids
pub mod TableFields
