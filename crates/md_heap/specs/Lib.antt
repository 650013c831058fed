pub mod Tree
pub mod Cells
pub mod Layout
pub mod Pending
pub mod Rank
