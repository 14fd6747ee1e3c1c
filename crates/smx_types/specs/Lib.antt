pub mod Names
pub mod NameFields
pub mod Drivers
pub mod FaultWords
pub mod Versions
pub mod ProgramLists
pub mod SameLemmas
