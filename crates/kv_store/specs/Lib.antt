pub mod Asked
pub mod Rings
pub mod Batches
pub mod Places
pub mod PuttingBack
pub mod Standing
pub mod Stored
pub mod inside
