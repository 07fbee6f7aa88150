pub mod Living
pub mod Accepting
pub mod Opening
pub mod Sent
pub mod Checkpointing
pub mod Somewhere
