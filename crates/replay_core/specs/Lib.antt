pub mod Spoken
pub mod Player
pub mod Output
pub mod Ends
