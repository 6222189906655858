pub mod Formulas
pub mod Readings
pub mod Streams
pub mod Taking
