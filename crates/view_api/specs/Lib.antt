pub mod Effect
pub mod Meaning
pub mod View
