pub mod Urls
pub mod Segments
pub mod Tables
