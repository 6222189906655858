pub mod Entries
pub mod Machine
pub mod Handles
pub mod Keeps
pub mod Posted
pub mod Written
