pub mod Words
pub mod Exit
pub mod Script
pub mod App
pub mod Offline
