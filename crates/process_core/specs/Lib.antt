pub mod Kept
pub mod Answers
pub mod Leaving
pub mod Joining
pub mod Answering
pub mod Turned
pub mod Shown
