pub mod Token
pub mod Lexemes
pub mod Spelling
pub mod Kinds
pub mod Literal
