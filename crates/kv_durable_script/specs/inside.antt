pub mod Dumpable
pub mod StoredText
