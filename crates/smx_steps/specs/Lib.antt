pub mod Escapes
pub mod Steps
pub mod Pages
pub mod Stepping
pub mod WorkedSteps
