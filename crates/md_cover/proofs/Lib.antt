pub mod Chains
pub mod ToldLemmas
pub mod BuildingLemmas
pub mod Settling
pub mod Blanks
pub mod RowLemmas
pub mod BodyNumbers
pub mod SolveLaws
pub mod Numbered
pub mod Closing
pub mod Telling
pub mod CoverageLaws
pub mod PlainCounts
pub mod RunCounts
mod Worked
