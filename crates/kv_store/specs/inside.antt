pub mod Batches
pub mod Bounds
pub mod Compacted
pub mod Fields
pub mod Following
pub mod Next
pub mod Putting
pub mod Selected
