pub mod Counting
pub mod OwnCounts
pub mod Members
pub mod TotalCounts
pub mod OneView
pub mod Worked
