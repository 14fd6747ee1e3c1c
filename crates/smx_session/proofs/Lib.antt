pub mod SessionLemmas
pub mod LawLemmas
pub mod HistoryLemmas
pub mod WorkedLemmas
