pub mod Path
pub mod Form
