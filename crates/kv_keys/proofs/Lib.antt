mod Cases
pub mod KeyBytes
pub mod Keys
pub mod Parts
pub mod Tokens
