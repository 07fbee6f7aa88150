pub mod GhostActs
pub mod Waiting
