pub mod Sharing
pub mod Lives
pub mod Openings
