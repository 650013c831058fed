pub mod Fast
pub mod States
pub mod Reads
pub mod Handing
pub mod Leaves
