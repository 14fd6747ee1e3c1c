pub mod HandleLemmas
pub mod LooseLemmas
pub mod WorkedLemmas
