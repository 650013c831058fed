pub mod Taken
pub mod Along
pub mod Sections
pub mod Built
pub mod First
pub mod Written
mod Worked
