pub mod Following
pub mod Text
