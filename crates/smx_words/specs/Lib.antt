pub mod Words
pub mod HexWords
pub mod Spelling
pub mod Spellable
pub mod LineReading
pub mod Verbs
