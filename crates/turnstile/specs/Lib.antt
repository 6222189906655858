pub mod Histories
pub mod Known
pub mod Rules
pub mod Seats
pub mod Steps
