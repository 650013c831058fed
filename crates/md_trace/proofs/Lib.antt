pub mod Balanced
pub mod Chains
pub mod ContextBalance
pub mod CounterSteps
pub mod Counting
pub mod Ends
pub mod Finds
pub mod Histories
pub mod LinkFacts
pub mod Lists
pub mod Longest
pub mod Numbered
pub mod Placing
pub mod Setwise
mod Worked
mod WorkedCliques
