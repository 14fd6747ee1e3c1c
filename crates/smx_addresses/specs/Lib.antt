pub mod Keys
pub mod Targets
pub mod BindingLists
pub mod RouteLists
pub mod TableFields
