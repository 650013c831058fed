pub mod Names
pub mod Orders
pub mod Ranges
pub mod Views
pub mod Links
pub mod GatheredSteps
pub mod RowOrder
pub mod Slots
pub mod PlainSites
pub mod Adding
pub mod DepthSteps
pub mod FlameSteps
pub mod StationSteps
mod WorkedTables
mod WorkedPorts
mod WorkedPrograms
mod WorkedCompare
