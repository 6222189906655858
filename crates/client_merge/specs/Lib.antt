pub mod Reading
pub mod Held
pub mod Planned
pub mod Page
pub mod Frames
pub mod Bodies
pub mod Laws
pub mod Alike
