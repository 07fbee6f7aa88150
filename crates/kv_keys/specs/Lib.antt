pub mod Grammar
pub mod Matching
pub mod Outcome
pub mod Places
pub mod Refusals
pub mod inside
