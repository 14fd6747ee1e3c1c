pub mod FaultWords
pub mod Sessions
pub mod WorkedSessions
