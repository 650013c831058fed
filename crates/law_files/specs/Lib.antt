pub mod Spelled
pub mod Views
pub mod Through
pub mod Runs
