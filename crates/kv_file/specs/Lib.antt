pub mod File
pub mod Adding
pub mod Bytes
pub mod Locking
