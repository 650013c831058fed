pub mod Accepts
pub mod Things
pub mod Whole
pub mod Rows
pub mod LinkRows
pub mod Exact
pub mod Keys
pub mod Graphs
pub mod Sitting
pub mod Reading
pub mod Ahead
pub mod Fed
pub mod Writes
pub mod Loaded
mod Worked
mod WorkedAhead
