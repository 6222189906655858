pub mod Gives
pub mod Variables
pub mod Scope
pub mod Held
pub mod Operands
pub mod Chains
