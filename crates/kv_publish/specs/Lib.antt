pub mod Prefixes
pub mod Openings
pub mod Rules
pub mod Beginnings
pub mod Steps
pub mod Publications
pub mod Witnesses
pub mod inside
