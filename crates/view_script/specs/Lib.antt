pub mod Script
pub mod Doing
pub mod Views
