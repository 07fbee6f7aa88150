pub mod Base64Symbols
pub mod Base64Words
mod Cases
pub mod Choosing
pub mod Compact
pub mod Counts
pub mod Digits
pub mod Escapes
pub mod Lines
pub mod Places
pub mod PutLines
pub mod Sending
pub mod Spaced
pub mod Texts
pub mod Whole
