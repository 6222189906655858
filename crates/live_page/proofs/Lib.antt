pub mod Rendered
pub mod Turned
pub mod Joined
