pub mod Chains
pub mod Fields
pub mod Givings
pub mod Readings
pub mod Responses
pub mod Servings
pub mod Tallies
mod Worked
mod WorkedServed
mod WorkedServing
