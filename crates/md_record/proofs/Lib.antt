pub mod Added
pub mod CallCosts
pub mod Callings
pub mod Calls
pub mod Ends
pub mod Events
pub mod Finishing
pub mod First
pub mod Leading
pub mod LinkRows
pub mod Made
pub mod PointerSteps
pub mod Returns
pub mod Room
pub mod RowSteps
pub mod Uses
pub mod ValidProfiles
mod Worked
