mod Worked
mod WorkedPages
pub mod ListSteps
pub mod ViewLists
pub mod Within
pub mod Plain
