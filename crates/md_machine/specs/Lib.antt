pub mod Standing
pub mod Stacks
pub mod Running
pub mod Ran
