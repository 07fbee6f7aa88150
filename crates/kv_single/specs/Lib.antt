pub mod Batches
pub mod Held
pub mod Replies
pub mod Stepping
pub mod inside
