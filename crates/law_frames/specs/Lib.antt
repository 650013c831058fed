pub mod Ways
pub mod Stores
pub mod Standing
pub mod Moves
pub mod After
pub mod Leaving
pub mod Calls
pub mod Running
