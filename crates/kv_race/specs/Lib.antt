pub mod Openings
pub mod Racing
pub mod Telling
pub mod Watching
pub mod Working
