pub mod Text
pub mod Lines
pub mod Candidates
pub mod Search
