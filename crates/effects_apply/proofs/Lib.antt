mod Floats
pub mod Steps
mod Orders
