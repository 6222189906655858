pub mod Sames
pub mod Order
pub mod Views
pub mod FromJson
pub mod ToJson
pub mod Examples
