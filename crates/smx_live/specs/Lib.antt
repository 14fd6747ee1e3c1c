pub mod Inboxes
pub mod LiveStages
pub mod LiveText
pub mod LiveTurns
pub mod Tables
pub mod Turns
pub mod WorkedLives
