mod Worked
pub mod Chains
pub mod Same
pub mod Titles
pub mod Texts
pub mod Anchored
