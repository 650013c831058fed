pub mod Depth
pub mod Counting
pub mod Moving
pub mod Called
pub mod Charges
pub mod Simple
pub mod Walking
pub mod Programs
pub mod Quietly
pub mod Stepping
pub mod Folds
pub mod Shorts
pub mod Growing
pub mod Nearer
mod Worked
