pub mod Gathering
pub mod Leaving
pub mod Reading
pub mod Scripted
pub mod Written
