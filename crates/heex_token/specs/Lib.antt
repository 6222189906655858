pub mod Tokens
pub mod Pieces
pub mod Answers
pub mod Lexing
