pub mod Dumps
pub mod Keeping
pub mod Runs
pub mod Scripts
pub mod Stored
pub mod inside
