pub mod Route
pub mod Table
pub mod Url
pub mod Found
