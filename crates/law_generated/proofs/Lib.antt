pub mod Numbers
pub mod Read
pub mod Checked
pub mod Looked
pub mod Items
pub mod Traced
pub mod Weighed
pub mod Finished
pub mod Placed
pub mod Contexts
mod Worked
mod WorkedRuns
