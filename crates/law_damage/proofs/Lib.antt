pub mod Tests
pub mod Expected
pub mod Along
pub mod Sections
pub mod Orphans
pub mod Places
pub mod Finds
pub mod Meets
pub mod Built
pub mod First
pub mod Written
mod Worked
