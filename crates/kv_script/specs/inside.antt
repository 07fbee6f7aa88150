pub mod Fields
pub mod Objects
pub mod Sends
pub mod Showing
