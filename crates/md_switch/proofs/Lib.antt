mod Arms
pub mod KeyLemmas
pub mod Tells
mod Worked
