pub mod State
pub mod Steps
pub mod Makes
pub mod Standing
