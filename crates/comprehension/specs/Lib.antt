pub mod Bound
pub mod Items
