pub mod Added
pub mod Cutting
