pub mod Places
pub mod Paths
pub mod Depths
pub mod Pairs
