pub mod Beginnings
pub mod Fed
pub mod ProgressState
