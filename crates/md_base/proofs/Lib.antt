pub mod Differ
pub mod Told
mod Worked
