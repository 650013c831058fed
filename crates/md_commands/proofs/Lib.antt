pub mod WordLemmas
pub mod Walks
pub mod Rows
pub mod Apps
pub mod LineLemmas
pub mod ReadingLemmas
pub mod Bounds
mod Worked
