pub mod Left
pub mod Parents
pub mod Ranges
pub mod Sorting
pub mod Rows
pub mod Work
pub mod RestSteps
pub mod Steps
pub mod Widths
pub mod Boxes
pub mod TwigSteps
pub mod Within
pub mod Apart
pub mod RowsOfBoxes
pub mod Lower
pub mod Complete
pub mod Once
pub mod There
mod WorkedTree
mod WorkedPicture
