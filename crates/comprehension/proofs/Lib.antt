pub mod Parts
pub mod Binds
pub mod Matched
