mod Worked
pub mod Kept
pub mod Steps
pub mod Chains
pub mod Words
