pub mod Answered
pub mod Choices
pub mod Commands
pub mod Line
pub mod Plain
pub mod Text
pub mod Words
pub mod inside
