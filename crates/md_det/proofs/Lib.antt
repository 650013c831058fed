mod Rules
pub mod Worked
pub mod Noted
pub mod Functors
pub mod KeyLemmas
pub mod Judging
pub mod Whole
pub mod Counted
mod Reach
pub mod Errors
