pub mod NamedSteps
pub mod ToldSteps
pub mod NameOrder
pub mod LineSteps
pub mod FullNames
pub mod OneRow
pub mod Rows
mod WorkedText
