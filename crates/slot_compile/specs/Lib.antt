pub mod Gathering
pub mod Numbering
pub mod Stretches
pub mod Tables
pub mod Template
