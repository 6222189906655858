pub mod Value
pub mod View
pub mod Nesting
pub mod Print
pub mod Json
