pub mod Lists
pub mod Meaning
pub mod Laid
pub mod Building
pub mod Sums
pub mod Frames
mod Worked
