mod Lookups
mod Steps
pub mod Placed
pub mod Standing
mod Worked
