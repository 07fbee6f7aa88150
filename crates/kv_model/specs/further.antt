pub mod Counts
pub mod Events
pub mod Meeting
pub mod OneByOne
pub mod Showing
