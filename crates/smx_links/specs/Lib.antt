pub mod Masks
pub mod Keys
pub mod LinkLists
pub mod TableFields
