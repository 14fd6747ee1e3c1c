pub mod StepLemmas
pub mod EscapeLemmas
