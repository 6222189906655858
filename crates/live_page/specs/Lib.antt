pub mod World
pub mod Page
pub mod Fault
