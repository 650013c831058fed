pub mod Covered
pub mod Told
pub mod Known
pub mod Rows
pub mod Text
pub mod Solved
pub mod Coverage
