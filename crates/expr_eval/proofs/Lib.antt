pub mod Views
pub mod Results
pub mod Chained
pub mod Keys
pub mod Listed
pub mod Forms
pub mod Along
pub mod Scopes
