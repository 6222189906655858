pub mod Counts
pub mod Manifests
pub mod Held
pub mod Texts
pub mod Listed
pub mod Items
