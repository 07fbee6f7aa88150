pub mod Checksum
pub mod Frames
pub mod Reading
