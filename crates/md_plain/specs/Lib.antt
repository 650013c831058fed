pub mod Values
pub mod Names
pub mod Goals
pub mod Keys
pub mod Outcomes
pub mod Told
pub mod Runs
pub mod Calls
