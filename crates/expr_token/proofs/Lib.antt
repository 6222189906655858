pub mod ExamplesTokens
pub mod Lexes
pub mod Fronts
pub mod PieceFacts
pub mod Passing
