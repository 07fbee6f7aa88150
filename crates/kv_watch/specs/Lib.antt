pub mod Following
pub mod Taking
pub mod Watching
pub mod inside
