pub mod Few
pub mod Change
pub mod Rest
pub mod Pending
