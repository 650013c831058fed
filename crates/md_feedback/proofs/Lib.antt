pub mod Digits
pub mod LineLemmas
pub mod Rising
pub mod FaultLemmas
pub mod Parts
pub mod Members
pub mod Depending
pub mod Within
pub mod Standing
pub mod Inside
pub mod Order
pub mod Whole
mod Worked
