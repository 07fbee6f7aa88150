pub mod Members
pub mod Rising
pub mod Lasts
pub mod Numbered
pub mod Keeping
pub mod Storing
pub mod Found
pub mod Counted
pub mod GivenLaws
pub mod KeptLaws
mod GivenCases
pub mod Finds
pub mod Numbers
pub mod Others
pub mod Transcripts
pub mod Theorem
pub mod Told
pub mod NoMemory
pub mod Further
pub mod Meeting
pub mod Few
pub mod Batching
mod RunCases
mod CompactionCases
pub mod Behind
